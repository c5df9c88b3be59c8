-- What was read so far is the front of the image, and after a turn there is more room.
use Rattle.std.proofs.Common.{◌<◌, ◌≤◌, length, take}
use Rattle.std.specs.Io.KnownBytes.{Consumes}
use Rattle.image_input.proofs.read_image.Given as goal

abbrev pub invariant-loop : goal.invariant-loop
invariant-loop g l = record {
  fits : l.len ≤ length l.image;
  more : 0 < l.counter → l.len < length l.image;
  read : Consumes (g.R.Read.remaining l.initial.stdin) (g.R.Read.remaining l.stdin) (take l.len l.image);
}
