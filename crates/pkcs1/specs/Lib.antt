pub mod Pkcs1
