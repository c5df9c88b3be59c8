pub mod ImageInput
