-- A refused put is counted and has its cause.
use Rattle.std.proofs.Common.{◌≡◌, ℕ, List, Err, ap, ◌∙◌, arith}
use Rattle.map_model.specs.Calls.{Put}
use Rattle.map_model.specs.Refusals.{HasCause, refusal_of}
use Rattle.map_model.specs.declared.refusal.Refusal.{Refusal}
use Rattle.map_model.specs.declared.refusal.Refusal.TheVariants as refusals
use Rattle.solo_index.specs.Standing.{Store}
use Rattle.solo_index.specs.Causes.{RefusesPut, Caused, IsNoted, values_full}
use Rattle.solo_index.specs.Tending.{HasAllValues}
use Rattle.leaf_table.specs.Table.{Table}
use Rattle.map_model.specs.declared.refusal.Full.TheVariants.{Values, Crowded}

pub put_counted : (T : Type 0) (old mid new : Store) (key value : List ℕ) (refusal : Refusal) → RefusesPut old.table mid.table key refusal → mid.refusals ≡ old.refusals → mid.last ≡ old.last → IsNoted mid new refusal
    → HasCause (λ (s : Store). s.refusals) (λ (s : Store). s.last) (Caused (Put key value)) old new (refusal_of {T = T} (Err refusal))
put_counted T old mid new key value (refusals.Again cause) refused count last noted = absurd refused
put_counted T old mid new key value (refusals.Full cause) refused count last noted =
    let kept = noted.1 in
    let rose = noted.2 in
    (omega arith, omega arith, omega arith, noted.3, refused.0)
put_counted T old mid new key value refusals.NoMemory refused count last noted = (ap (λ (s : Store). s.refusals) noted ∙ count, ap (λ (s : Store). s.last) noted ∙ last)

-- where there are as many values as there may be, just that is told
pub refused_full : (t u : Table) (key : List ℕ) (refusal : Refusal) → RefusesPut t u key refusal → HasAllValues t → refusal ≡ values_full t
refused_full t u key (refusals.Again cause) refused full = absurd refused
refused_full t u key (refusals.Full (Values drawn most)) refused full =
    let is = refused.0 in
    ap (λ (n : ℕ). refusals.Full (Values n most)) is.0 ∙ ap (λ (n : ℕ). refusals.Full (Values t.shape.values n)) is.1
refused_full t u key (refusals.Full (Crowded count hard why)) refused full = absurd (refused.0.2 full)
refused_full t u key refusals.NoMemory refused full = absurd (refused.0 full)
