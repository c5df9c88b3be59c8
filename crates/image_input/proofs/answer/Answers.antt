use Rattle.std.proofs.Common.{rules}
use Rattle.std.specs.Io.KnownBytes.{Appends}
use Rattle.image_input.specs.ImageInput.{Answered}
use Rattle.image_input.proofs.answer.Goals as goal

-- Where all was written, the call that put the text says which image and which rooms are meant.
pub returns : goal.returns
returns g c =
    let answered
    : Appends (g.W.Write.contents c.args.stdout.now) (g.W.Write.contents c.write_all-outcome.new.output) c.front.result.now
    → Answered g.T.Default.is_default g.T.AsSlice.items g.F.FnOnce c.args.put_text (g.R.Read.remaining c.args.stdin.now)
    (g.R.Read.remaining c.read_image.new.stdin) (g.W.Write.contents c.args.stdout.now)
    (g.W.Write.contents c.write_all-outcome.new.output)
    = λ all. record {
      image = _;
      read = search rules;
      fits = search rules;
      at_end = search rules;
      room = _;
      fresh = search rules;
      end = _;
      after = _;
      put = c.put_text-end.ensures;
      written = search rules;
    } in
    search (rules, answered)
