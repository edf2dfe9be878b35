use Rattle.std.proofs.Common.{◌≡◌, ◌≢◌, ◌+◌, ◌<◌, ℕ, List, [], ◌∷◌, length, length-take-le, take, map, Bool, false, sym, ap, ◌∙◌, subst, arith}
use Rattle.std.specs.Bool.{MatchBool}
use Rattle.std.proofs.lemmas.Bool.{cond-false, le-ltb, MatchBool-at_false}
use Rattle.std.proofs.lemmas.List.Elements.{All-take}
use Rattle.line_reader.specs.declared.limits.TheConstants.{LINE_ROOM, LONGEST_LINE}
use Rattle.line_reader.specs.Cut.{ended_lines, open_part, without_cr}
use Rattle.line_reader.specs.Held.{Held}
use Rattle.line_reader.specs.Told.{Holds, IsFront, tells, told_lines}
use Rattle.line_reader.specs.Told.Told.{Read, Long}
use Rattle.line_reader.proofs.Cutting.{ended_lines_one, open_part_one, front_at, front_none, HasNoLf_none}
use Rattle.line_reader.proofs.Fronts.{front_nothing, without_cr-length}
use Rattle.line_reader.proofs.lines.Lines.whole.Goals as goal

-- a reader that isn't within a line took none of it
at_begin : (held : Held) (within : Bool) (part : List ℕ) → within ≡ false → MatchBool within (held.kept ≢ []) (held.kept ≡ []) → Holds held part → part ≡ []
at_begin held within part is_false test holds =
    let empty : held.kept ≡ [] = MatchBool-at_false (held.kept ≢ []) (held.kept ≡ []) is_false test in
    (front_nothing held.over part (subst (λ l. IsFront l held.over part) empty holds)).0

pub returns-in-None-clause-none : goal.returns-in-None-clause-none
returns-in-None-clause-none c empty = All-take (λ b. b ≢ 10) LINE_ROOM c.args.piece.now (HasNoLf_none c.args.piece.now c.in-None.ensures)

pub returns-then-line-gt-LONGEST_LINE-clause-none : goal.returns-then-line-gt-LONGEST_LINE-clause-none
returns-then-line-gt-LONGEST_LINE-clause-none c empty =
    let piece = c.args.piece.now in
    let at = c.in-Some.at in
    let found = c.in-Some.ensures in
    let long : LONGEST_LINE < at = omega (arith, c.if-line-gt-LONGEST_LINE.true, ap length c.before_cr-line.ensures, without_cr-length (take at piece), length-take-le at piece) in
    HasNoLf_none (take LINE_ROOM piece) (front_none piece LINE_ROOM (omega (arith, found.0.high)) (λ k low high. found.0.before k low (omega arith)))

pub returns-else-line-gt-LONGEST_LINE-clause-told : goal.returns-else-line-gt-LONGEST_LINE-clause-told
returns-else-line-gt-LONGEST_LINE-clause-told c part front =
    let piece = c.args.piece.now in
    let at = c.in-Some.at in
    let found = c.in-Some.ensures in
    let bytes = take at piece in
    let is_line = c.before_cr-line.ensures in
    let none = at_begin c.args.self.now c.is_within.result part c.if-is_within.false c.is_within.ensures front in
    let short = le-ltb LONGEST_LINE (length (without_cr bytes)) (omega (arith, c.if-line-gt-LONGEST_LINE.false, ap length is_line)) in
    ap (λ p. told_lines p (take (at + 1) piece)) none
    ∙ ap (map tells) (ap (ended_lines []) (front_at piece at found.0.high found.1) ∙ ended_lines_one [] bytes (front_none piece at found.0.high found.0.before))
    ∙ ap (λ t. t ∷ []) (cond-false _ Long (Read (without_cr bytes)) short)
    ∙ ap (λ l. Read l ∷ []) (sym is_line)

pub returns-else-line-gt-LONGEST_LINE-clause-held : goal.returns-else-line-gt-LONGEST_LINE-clause-held
returns-else-line-gt-LONGEST_LINE-clause-held c part front =
    let piece = c.args.piece.now in
    let at = c.in-Some.at in
    let found = c.in-Some.ensures in
    let none = at_begin c.args.self.now c.is_within.result part c.if-is_within.false c.is_within.ensures front in
    let ends = ap (open_part part) (front_at piece at found.0.high found.1) ∙ open_part_one part (take at piece) in
    subst (Holds c.args.self.now) (none ∙ sym ends) front
