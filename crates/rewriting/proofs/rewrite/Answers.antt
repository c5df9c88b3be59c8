use Rattle.writing.proofs.Puts.{put_same}
use Rattle.rewriting.proofs.Texts.{loaded_good, accepted_text, refused_text}
use Rattle.rewriting.proofs.rewrite.Goals as goal

pub put_image-requires : goal.put_image-requires
put_image-requires c = loaded_good c.args.image.now c.load-loaded.result c.load-loaded.ensures c.in-Ok.is

pub returns-in-Ok : goal.returns-in-Ok
returns-in-Ok c = put_same (accepted_text c.args.image.now c.load-loaded.result c.load-loaded.ensures c.in-Ok.is) c.put_image.ensures

pub returns-in-Err : goal.returns-in-Err
returns-in-Err c = put_same (refused_text c.args.image.now c.load-loaded.result c.load-loaded.ensures c.in-Err.is) c.put_number.ensures
