use Rattle.octets.proofs.Pasting.{zeros}
use Rattle.key_commands.proofs.Blocks.{put_twice}
use Rattle.key_commands.proofs.joined.Goals as goal

pub returns : goal.returns
returns c = put_twice 257 c.args.first.now c.args.second.now c.requires (zeros 257) c.copy_at.ensures c.copy_at-2.ensures
