use Rattle.std.proofs.Common.{[], ◌++◌, length, take, map, false, sym, ap, ◌∙◌, subst, le_refl}
use Rattle.std.proofs.lemmas.List.{take_all}
use Rattle.line_reader.specs.Cut.{ended_lines, open_part}
use Rattle.line_reader.specs.Held.{Held}
use Rattle.line_reader.specs.Told.{IsFront, tells}
use Rattle.line_reader.proofs.Cutting.{ended_lines_none, open_part_none, ended_lines_one, open_part_one, front_at, front_none, HasNoLf_none}
use Rattle.line_reader.proofs.Fronts.{front_empty}
use Rattle.line_reader.proofs.lines.Lines.take.Goals as goal

pub returns-in-None-clause-told : goal.returns-in-None-clause-told
returns-in-None-clause-told c part front =
    let piece = c.args.piece.now in
    let whole = take_all (length piece) piece (le_refl (length piece)) in
    sym (ap (map tells) (ap (ended_lines part) whole ∙ ended_lines_none part piece c.in-None.ensures))

pub returns-in-None-clause-held : goal.returns-in-None-clause-held
returns-in-None-clause-held c part front =
    let piece = c.args.piece.now in
    let whole = take_all (length piece) piece (le_refl (length piece)) in
    let viewed = subst (λ (h : Held). IsFront h.kept h.over part) (sym c.self.view_is) front in
    let begun = subst (λ l. IsFront l c.self.inside.over part) (sym c.begin.ensures.items) viewed in
    subst (λ p. IsFront c.keep-self-inside.new.line.items c.keep-self-inside.result p) (sym (ap (open_part part) whole ∙ open_part_none part piece c.in-None.ensures)) (c.keep-self-inside.ensures.front part begun)

pub returns-in-Some-clause-told : goal.returns-in-Some-clause-told
returns-in-Some-clause-told c part front =
    let piece = c.args.piece.now in
    let at = c.in-Some.at in
    let found = c.in-Some.ensures in
    let viewed = subst (λ (h : Held). IsFront h.kept h.over part) (sym c.self.view_is) front in
    let begun = subst (λ l. IsFront l c.self.inside.over part) (sym c.begin.ensures.items) viewed in
    c.end-event.ensures.told (part ++ take at piece) (c.keep-over.ensures.front part begun)
    ∙ sym (ap (map tells) (ap (ended_lines part) (front_at piece at found.0.high found.1) ∙ ended_lines_one part (take at piece) (front_none piece at found.0.high found.0.before)))

pub returns-in-Some-clause-held : goal.returns-in-Some-clause-held
returns-in-Some-clause-held c part front =
    let piece = c.args.piece.now in
    let at = c.in-Some.at in
    let found = c.in-Some.ensures in
    subst (λ p. IsFront [] false p) (sym (ap (open_part part) (front_at piece at found.0.high found.1) ∙ open_part_one part (take at piece))) front_empty

pub returns-in-None-clause-first : goal.returns-in-None-clause-first
returns-in-None-clause-first c = HasNoLf_none c.args.piece.now c.in-None.ensures

pub returns-in-Some-clause-first : goal.returns-in-Some-clause-first
returns-in-Some-clause-first c =
    let piece = c.args.piece.now in
    let at = c.in-Some.at in
    let found = c.in-Some.ensures in
    (take at piece, front_at piece at found.0.high found.1, HasNoLf_none (take at piece) (front_none piece at found.0.high found.0.before))
