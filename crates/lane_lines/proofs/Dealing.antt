-- What one more line adds to the scripts and to the fault lines.
use Rattle.std.proofs.Common.{◌≡◌, ℕ, zero, suc, ◌<◌, List, [], ◌∷◌, ◌++◌, length, set, cond, refl, sym, ap, ◌∙◌, subst, arith, Option, Some, None, Vec, vec_len, Result, Ok, Err, get_or, eq-eqb, ne_eqb}
use Rattle.std.specs.List.{flat_map, after_first}
use Rattle.std.specs.Result.{OnOk}
use Rattle.std.specs.declared.alloc.Global.{Global}
use Rattle.std.proofs.lemmas.List.{append-nil}
use Rattle.std.proofs.lemmas.List.Concat.{flat_map-append}
use mathlib.Core.Logic.{dite}
use native.Mathlib.Decide.{ℕ_discrete}
use Rattle.line_reader.specs.Told.{Told, told}
use Rattle.line_reader.specs.declared.lines.Event.{Event}
use Rattle.line_reader.specs.declared.lines.Event.TheVariants.{TooLong}
use Rattle.line_reader.specs.Told.Told.{Read, Long}
use Rattle.line_protocol.specs.ReplyLine.{AppendsAll}
use Rattle.lane_lines.specs.declared.dealt.Dealt.{Dealt}
use Rattle.lane_lines.specs.Deal.{is_space, lane_of, part_for, given_by, fault_for, fault_by, script_at, IsDealt, Gains}

-- one line more
flat_more : (f : Told → List ℕ) (before : List Told) (t : Told) → flat_map f (before ++ t ∷ []) ≡ flat_map f before ++ f t
flat_more f before t = flat_map-append f before (t ∷ []) ∙ ap (λ l. flat_map f before ++ l) (append-nil (f t))

pub dealt_more : (lanes : ℕ) (before : List Told) (t : Told) (d e : Dealt) → IsDealt lanes before d → vec_len e.scripts ≡ vec_len d.scripts
    → ((lane : ℕ) → lane < lanes → script_at e.scripts.items lane ≡ script_at d.scripts.items lane ++ given_by lanes lane t) → e.faults.items ≡ d.faults.items ++ fault_by lanes t → IsDealt lanes (before ++ t ∷ []) e
dealt_more lanes before t d e is many scripts faults = record {
  many = many ∙ is.many;
  scripts = λ lane less. scripts lane less ∙ (ap (λ l. l ++ given_by lanes lane t) (is.scripts lane less) ∙ sym (flat_more (given_by lanes lane) before t));
  faults = faults ∙ (ap (λ l. l ++ fault_by lanes t) is.faults ∙ sym (flat_more (fault_by lanes) before t));
}

-- a line that adds to no script
pub dealt_fault : (lanes : ℕ) (before : List Told) (t : Told) (d e : Dealt) → IsDealt lanes before d → e.scripts ≡ d.scripts → ((lane : ℕ) → given_by lanes lane t ≡ []) → e.faults.items ≡ d.faults.items ++ fault_by lanes t → IsDealt lanes (before ++ t ∷ []) e
dealt_fault lanes before t d e is same none faults =
    dealt_more lanes before t d e is (ap vec_len same)
    (λ lane less. ap (λ (s : Vec (Vec ℕ Global) Global). script_at s.items lane) same ∙ (sym (append-nil (script_at d.scripts.items lane)) ∙ ap (λ l. script_at d.scripts.items lane ++ l) (sym (none lane)))) faults

-- a line of no lane
pub dealt_none : (lanes : ℕ) (before : List Told) (line : List ℕ) (d e : Dealt) → IsDealt lanes before d → e.scripts ≡ d.scripts → lane_of lanes line ≡ None → e.faults.items ≡ d.faults.items ++ fault_for None line → IsDealt lanes (before ++ Read line ∷ []) e
dealt_none lanes before line d e is same none faults =
    dealt_fault lanes before (Read line) d e is same (λ lane. ap (λ o. part_for o lane line) none) (faults ∙ ap (λ o. d.faults.items ++ fault_for o line) (sym none))

-- a line of a lane
pub dealt_given : (lanes lane : ℕ) (before : List Told) (line rest : List ℕ) (d e : Dealt) → IsDealt lanes before d → lane_of lanes line ≡ Some lane → rest ≡ after_first is_space line → Gains lane (rest ++ 10 ∷ []) d e → IsDealt lanes (before ++ Read line ∷ []) e
dealt_given lanes lane before line rest d e is named same g =
    dealt_more lanes before (Read line) d e is g.many each (g.faults ∙ (sym (append-nil d.faults.items) ∙ ap (λ o. d.faults.items ++ fault_for o line) (sym named)))
  where
    each : (other : ℕ) → other < lanes → script_at e.scripts.items other ≡ script_at d.scripts.items other ++ given_by lanes other (Read line)
    each other less = dite (ℕ_discrete lane other)
        (λ here.
        let part : part_for (lane_of lanes line) other line ≡ rest ++ 10 ∷ [] = ap (λ o. part_for o other line) named ∙ (ap (λ b. cond b (after_first is_space line ++ 10 ∷ []) []) (eq-eqb lane other here) ∙ ap (λ r. r ++ 10 ∷ []) (sym same)) in
        subst (λ n. script_at e.scripts.items n ≡ script_at d.scripts.items n ++ (rest ++ 10 ∷ [])) here g.mine ∙ ap (λ l. script_at d.scripts.items other ++ l) (sym part))
        (λ apart.
        let part : part_for (lane_of lanes line) other line ≡ [] = ap (λ o. part_for o other line) named ∙ ap (λ b. cond b (after_first is_space line ++ 10 ∷ []) []) (ne_eqb lane other apart) in
        g.others other (λ e. apart (sym e)) ∙ (sym (append-nil (script_at d.scripts.items other)) ∙ ap (λ l. script_at d.scripts.items other ++ l) (sym part)))

-- the script at a place that is set, and at the others
pub script_here : (scripts : List (Vec ℕ Global)) (lane : ℕ) (script : Vec ℕ Global) → lane < length scripts → script_at (set scripts lane script) lane ≡ script.items
script_here [] lane script less = absurd (omega (arith, less))
script_here (s ∷ scripts) zero script less = refl
script_here (s ∷ scripts) (suc lane) script less = script_here scripts lane script (omega (arith, less))

pub script_else : (scripts : List (Vec ℕ Global)) (lane other : ℕ) (script : Vec ℕ Global) → (other ≡ lane → ⊥) → script_at (set scripts lane script) other ≡ script_at scripts other
script_else [] lane other script apart = refl
script_else (s ∷ scripts) zero zero script apart = absurd (apart refl)
script_else (s ∷ scripts) zero (suc other) script apart = refl
script_else (s ∷ scripts) (suc lane) zero script apart = refl
script_else (s ∷ scripts) (suc lane) (suc other) script apart = script_else scripts lane other script (λ e. apart (ap suc e))

-- empty scripts
pub scripts_none : (scripts : List (Vec ℕ Global)) (script : Vec ℕ Global) → ((lane : ℕ) → script_at scripts lane ≡ []) → script.items ≡ [] → (lane : ℕ) → script_at (scripts ++ script ∷ []) lane ≡ []
scripts_none [] script none empty zero = empty
scripts_none [] script none empty (suc lane) = refl
scripts_none (s ∷ scripts) script none empty zero = none 0
scripts_none (s ∷ scripts) script none empty (suc lane) = scripts_none scripts script (λ lane. none (suc lane)) empty lane

pub script_get : (scripts : List (Vec ℕ Global)) (lane : ℕ) (d : Vec ℕ Global) → lane < length scripts → script_at scripts lane ≡ (get_or scripts lane d).items
script_get [] lane d less = absurd (omega (arith, less))
script_get (s ∷ scripts) zero d less = refl
script_get (s ∷ scripts) (suc lane) d less = script_get scripts lane d (omega (arith, less))

-- what follows where a call didn't want memory
pub on_ok_more : {T E : Type 0} (r : Result T E) (P Q : Type 0) → (P → Q) → OnOk r P → OnOk r Q
on_ok_more (Ok x) P Q more p = more p
on_ok_more (Err e) P Q more p = tt

-- a line that is too long
pub told_long : {T E : Type 0} (r : Result T E) (lanes : ℕ) (before : List Told) (event : Option Event) (line : List ℕ) (d e : Dealt) → event ≡ Some TooLong → IsDealt lanes before d → e.scripts ≡ d.scripts → AppendsAll r d.faults.items e.faults.items (fault_by lanes Long) → OnOk r (IsDealt lanes (before ++ told event line) e)
told_long (Ok x) lanes before event line d e is dealt same adds = subst (λ v. IsDealt lanes (before ++ told v line) e) (sym is) (dealt_fault lanes before Long d e dealt same (λ lane. refl) adds)
told_long (Err x) lanes before event line d e is dealt same adds = tt
