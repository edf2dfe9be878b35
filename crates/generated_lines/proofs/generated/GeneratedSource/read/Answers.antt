use Rattle.std.proofs.Common.{◌≡◌, ◌+◌, ◌-◌, ◌++◌, sym, ap, ◌∙◌, take, drop, length, arith, length-take}
use Rattle.std.proofs.lemmas.List.{take_at}
use Rattle.outside.specs.Reading.{Told}
use Rattle.generated_lines.specs.Generator.{made_from, lines_text}
use Rattle.generated_lines.proofs.Giving.{piece_left}
use Rattle.generated_lines.proofs.generated.GeneratedSource.read.Goals as goal

-- what was copied is the next piece
pub returns-else-n-eq0-clause-bytes : goal.returns-else-n-eq0-clause-bytes
returns-else-n-eq0-clause-bytes c =
    let ready = c.make_ready.new.self in
    let at = ready.at in
    let n = c.min-n.result in
    let copied = c.copy_from_slice.new.self in
    let len : length copied ≡ n = omega (arith, c.copy_from_slice.ensures.len, length-take n c.args.buf.now, c.min-n.ensures) in
    let count : at + n - at ≡ n = omega arith in
    let is : copied ≡ take n (drop at ready.line.items) = c.copy_from_slice.ensures.after ∙ (ap (λ k. take k (drop at c.deref.result.now)) count ∙ ap (λ b. take n (drop at b)) c.deref.ensures.value) in
    let rest = lines_text (made_from ready.number ready.made (ready.count - ready.made)) in (
      c.then-self.ensures ∙ ap (λ (t : Told). t.given ++ take n (copied ++ drop n c.args.buf.now)) c.make_ready.ensures.told,
      sym (ap (λ (t : Told). t.left) c.make_ready.ensures.told) ∙ piece_left ready.line.items _ rest at n (take_at copied (drop n c.args.buf.now) n len ∙ is),
    )
