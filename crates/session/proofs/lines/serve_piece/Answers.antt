use Rattle.std.proofs.Common.{◌≡◌, ◌+◌, ◌-◌, ◌++◌, List, ℕ, length, take, drop, true, false, refl, sym, ap, ◌∙◌, subst, arith, take-append-drop}
use Rattle.std.proofs.lemmas.List.{take_rest, length-drop, take_all}
use mathlib.Core.List.{IsPrefix}
use Rattle.line_reader.specs.Cut.{open_part}
use Rattle.line_protocol.specs.Requests.{Asked}
use Rattle.line_reader.specs.Told.{Holds, told_lines}
use Rattle.line_reader.proofs.Cutting.{told_lines-append, told_more, open_more}
use Rattle.outside.proofs.Pieces.{wrote_none}
use Rattle.session.specs.Asked.{asked_by_all, has_quit, upto_quit}
use Rattle.session.proofs.AskedLists.{upto_none, more_quit, more_asked, more_begun, longer_asked, longer_quit, longer_begun}
use Rattle.session.proofs.Joining.{transcribes_none, transcribes_told, transcribes_then}
use Rattle.session.proofs.Turning.{wrote_behind, torn_more}
use Rattle.session.proofs.lines.serve_piece.Goals as goal

-- the lines of a piece are those of its front, and those of the rest
in_piece : (part piece : List ℕ) (n : ℕ) → told_lines part piece ≡ told_lines part (take n piece) ++ told_lines (open_part part (take n piece)) (drop n piece)
in_piece part piece n = ap (told_lines part) (sym (take-append-drop n piece)) ∙ told_lines-append part (take n piece) (drop n piece)

module _ (part piece : List ℕ) (n : ℕ) where
  all_asked : has_quit (asked_by_all (told_lines part (take n piece))) ≡ true → upto_quit (asked_by_all (told_lines part (take n piece))) ≡ upto_quit (asked_by_all (told_lines part piece))
  all_asked = longer_asked (told_lines part (take n piece)) (told_lines (open_part part (take n piece)) (drop n piece)) (told_lines part piece) (in_piece part piece n)

  all_quit : has_quit (asked_by_all (told_lines part (take n piece))) ≡ true → has_quit (asked_by_all (told_lines part piece)) ≡ true
  all_quit = longer_quit (told_lines part (take n piece)) (told_lines (open_part part (take n piece)) (drop n piece)) (told_lines part piece) (in_piece part piece n)

  all_begun : (some : List Asked) → IsPrefix some (upto_quit (asked_by_all (told_lines part (take n piece)))) → IsPrefix some (upto_quit (asked_by_all (told_lines part piece)))
  all_begun = longer_begun (told_lines part (take n piece)) (told_lines (open_part part (take n piece)) (drop n piece)) (told_lines part piece) (in_piece part piece n)

pub told-init : goal.told-init
told-init g c = record {
  within = omega arith;
  held = λ part holds. holds;
  going = λ part holds. refl;
  lane = refl;
  sole = refl;
  origin = refl;
  forks = refl;
  limit = refl;
  fits = λ history fit. fit;
  faults = omega arith;
  connection = refl;
  transcript = λ part holds. transcribes_none _ _ _ _ _ _ _ _ _ (λ old history. g.met.O.Ordered.stands_legal _ old history) refl (wrote_none _);
}

pub told-preserved : goal.told-preserved
told-preserved g c =
    let now = c.told.invariant in
    let at = c.told.at in
    let piece = c.args.piece.now in
    let next = c.serve_next-used in
    let used = next.result.0 in
    let slice = take (length piece - at) (drop at piece) in
    let rest = take_rest piece at in
    let going : (part : List ℕ) → Holds c.args.lines.now part → has_quit (asked_by_all (told_lines part (take (at + used) piece))) ≡ false =
    λ part holds.
    let quit = rw c.in-Ok-false.is at (next.ensures.quit (open_part part (take at piece)) (now.held part holds)) in
    more_quit (told_lines part (take at piece)) (told_lines (open_part part (take at piece)) (take used slice)) _ (told_more part piece slice at used rest) (now.going part holds) ∙ (sym quit ∙ c.in-Ok-false.field-0-test) in
    let counted = rw c.in-Ok-false.is at next.ensures.cause in record {
      within = omega (arith, next.ensures.used.1, ap length rest, length-drop at piece);
      held = λ part holds. subst (Holds next.new.lines) (sym (open_more part piece slice at used rest)) (next.ensures.held (open_part part (take at piece)) (now.held part holds));
      going = going;
      lane = next.ensures.kept.0 ∙ now.lane;
      sole = next.ensures.kept.1 ∙ now.sole;
      origin = next.ensures.kept.2 ∙ now.origin;
      forks = next.ensures.forks ∙ now.forks;
      limit = next.ensures.kept.3 ∙ now.limit;
      fits = λ history fit. next.ensures.fits history (now.fits history fit);
      faults = omega (arith, now.faults, counted);
      connection = next.ensures.kept.4 ∙ now.connection;
      transcript = λ part holds. transcribes_then _ _ _ _ _ _ _ _ _ _ _ _ _ _ _ _ _ _ _ _ now.fits
          (λ xs ys p q. more_asked (told_lines part (take at piece)) (told_lines (open_part part (take at piece)) (take used slice)) _ (told_more part piece slice at used rest) (now.going part holds) xs ys p q ∙ upto_none _ (going part holds))
          (λ xs ys asked p q. wrote_behind _ _ _ xs ys p q) (now.transcript part holds) (rw (now.lane, now.sole, now.limit, c.in-Ok-false.is) at (next.ensures.served (open_part part (take at piece)) (now.held part holds)));
    }

pub returns-in-Ok-true-clause-served : goal.returns-in-Ok-true-clause-served
returns-in-Ok-true-clause-served g c = λ part holds.
    let now = c.told.invariant in
    let at = c.told.at in
    let piece = c.args.piece.now in
    let next = c.serve_next-used in
    let used = next.result.0 in
    let slice = take (length piece - at) (drop at piece) in
    let front = told_lines part (take at piece) in
    let back = told_lines (open_part part (take at piece)) (take used slice) in
    let is = told_more part piece slice at used (take_rest piece at) in
    let last = rw c.in-Ok-true.is at (next.ensures.quit (open_part part (take at piece)) (now.held part holds)) in
    let quit : has_quit (asked_by_all (told_lines part (take (at + used) piece))) ≡ true =
    more_quit front back _ is (now.going part holds) ∙ (sym last ∙ c.in-Ok-true.field-0-test) in
    transcribes_then _ _ _ _ _ _ _ _ _ _ _ _ _ _ _ _ _ _ _ _ now.fits
    (λ xs ys p q. more_asked front back _ is (now.going part holds) xs ys p q ∙ all_asked part piece (at + used) quit)
    (λ xs ys asked p q. wrote_behind _ _ _ xs ys p q) (now.transcript part holds) (rw (now.lane, now.sole, now.limit, c.in-Ok-true.is) at (next.ensures.served (open_part part (take at piece)) (now.held part holds)))

pub returns-in-Ok-true-clause-quit : goal.returns-in-Ok-true-clause-quit
returns-in-Ok-true-clause-quit g c = λ part holds.
    let now = c.told.invariant in
    let at = c.told.at in
    let piece = c.args.piece.now in
    let next = c.serve_next-used in
    let used = next.result.0 in
    let slice = take (length piece - at) (drop at piece) in
    let front = told_lines part (take at piece) in
    let back = told_lines (open_part part (take at piece)) (take used slice) in
    let is = told_more part piece slice at used (take_rest piece at) in
    let last = rw c.in-Ok-true.is at (next.ensures.quit (open_part part (take at piece)) (now.held part holds)) in
    let quit : has_quit (asked_by_all (told_lines part (take (at + used) piece))) ≡ true =
    more_quit front back _ is (now.going part holds) ∙ (sym last ∙ c.in-Ok-true.field-0-test) in
    sym (all_quit part piece (at + used) quit)

pub returns-in-Err-clause-served : goal.returns-in-Err-clause-served
returns-in-Err-clause-served g c = λ part holds.
    let now = c.told.invariant in
    let at = c.told.at in
    let piece = c.args.piece.now in
    let next = c.serve_next-used in
    let used = next.result.0 in
    let slice = take (length piece - at) (drop at piece) in
    let front = told_lines part (take at piece) in
    let back = told_lines (open_part part (take at piece)) (take used slice) in
    let is = told_more part piece slice at used (take_rest piece at) in
    transcribes_then _ _ _ _ _ _ _ _ _ _ _ _ _ _ _ _ _ _ _ _ now.fits
    (λ xs ys p q. all_begun part piece (at + used) (xs ++ ys) (more_begun front back _ is (now.going part holds) xs ys p q))
    (λ xs ys asked p q. torn_more _ _ _ xs ys p q) (now.transcript part holds) (rw (now.lane, now.sole, now.limit, c.in-Err.is) at (next.ensures.served (open_part part (take at piece)) (now.held part holds)))

pub returns-clause-served : goal.returns-clause-served
returns-clause-served g c = λ part holds.
    let now = c.told.invariant in
    let whole = take_all c.told.at c.args.piece.now (omega arith) in
    transcribes_told _ _ _ _ _ _ _ _ _ _ _ _ _ _ (λ xs p. p ∙ (sym (upto_none _ (now.going part holds)) ∙ ap (λ w. upto_quit (asked_by_all (told_lines part w))) whole)) (λ xs p. p) (now.transcript part holds)

pub returns-clause-quit : goal.returns-clause-quit
returns-clause-quit g c = λ part holds.
    sym (ap (λ w. has_quit (asked_by_all (told_lines part w))) (sym (take_all c.told.at c.args.piece.now (omega arith))) ∙ c.told.invariant.going part holds)

pub returns-clause-held : goal.returns-clause-held
returns-clause-held g c = λ part holds.
    subst (λ w. Holds c.told.lines (open_part part w)) (take_all c.told.at c.args.piece.now (omega arith)) (c.told.invariant.held part holds)
