use Rattle.std.proofs.Common.{◌≡◌, ◌==◌, ◌<◌, ◌++◌, length, take, drop, sym, ap, ◌∙◌, arith, length-take, length-drop}
use Rattle.std.proofs.lemmas.Bool.{eqb-false}
use Rattle.std.proofs.lemmas.List.{take_at, length-append}
use Rattle.std.specs.Io.Buffered.{reader_buffer}
use Rattle.standard_ends.proofs.Ahead.{given_ahead}
use Rattle.standard_ends.proofs.outgoing.Outgoing.read_behind.Goals as goal

-- what was copied is the front of what was read ahead
pub returns-clause-bytes : goal.returns-clause-bytes
returns-clause-bytes g c =
    let n = c.min-n.result in
    let rest = drop n c.args.buf.now in
    let copied = c.copy_from_slice.new.self in
    let len : length copied ≡ n = omega (arith, c.copy_from_slice.ensures.len, length-take n c.args.buf.now, c.min-n.ensures) in
    let given : take n (copied ++ rest) ≡ take n (reader_buffer c.args.reader.now) = take_at copied rest n len ∙ (c.copy_from_slice.ensures.after ∙ ap (take n) c.buffer-ahead.ensures) in
    let some : n ≡ 0 → 0 < length (copied ++ rest) → ⊥ = λ zero room.
    let held = eqb-false _ _ (sym c.is_empty.ensures ∙ c.if-is_empty.false) in
    let here = length-append copied rest in
    let behind = length-drop n c.args.buf.now in
    let most = c.min-n.ensures in
    omega (arith, len) in
    rw (c.consume.ensures.capacity, c.consume.ensures.inner) (given_ahead (c.args.reader.now.buf.buf.len == 0) (g.R.Read.remaining c.args.reader.now.inner) _ _ _ n given c.consume.ensures.buffer some)
