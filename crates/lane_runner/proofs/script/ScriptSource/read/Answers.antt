use Rattle.std.proofs.Common.{◌≡◌, ◌+◌, ◌-◌, ap, ◌∙◌, take, drop, length, arith, length-take}
use Rattle.std.proofs.lemmas.List.{take_at}
use Rattle.outside.proofs.Pieces.{piece_given}
use Rattle.lane_runner.proofs.script.ScriptSource.read.Goals as goal

-- the bytes copied into the buffer are the script's next ones, from where the last read stopped
pub returns-else-n-eq0-clause-bytes : goal.returns-else-n-eq0-clause-bytes
returns-else-n-eq0-clause-bytes c =
    let at = c.args.self.now.at in
    let n = c.min-n.result in
    let copied = c.copy_from_slice.new.self in
    let len : length copied ≡ n = omega (arith, c.copy_from_slice.ensures.len, length-take n c.args.buf.now, c.min-n.ensures) in
    let count : at + n - at ≡ n = omega arith in
    let is : copied ≡ take n (drop at c.args.self.now.bytes.items) = c.copy_from_slice.ensures.after ∙ (ap (λ k. take k (drop at c.deref.result.now)) count ∙ ap (λ b. take n (drop at b)) c.deref.ensures.value) in
    piece_given c.args.self.now.bytes.items _ at n (take_at copied (drop n c.args.buf.now) n len ∙ is)
