-- `after` makes the empty struct, with the count that its clause names. Assumes `Logic`.
use Rattle.std.proofs.Common.{[], ◌∷◌, ◌+◌, refl}
use seplogic.Ra.Ura.{Ura}
use mir.Syntax.{Fn, named}
use mir.Val.{Val, vptr}
use base.Logic.{SProp}
use prog.Memory.{Memory}
use prog.Routine.{Routine}
use prog.Wp.{WpFn, Tables}
use contract.Monad.{Fun}
use contract.Running.{tables, tables_of}
use sound.WpLaws.{WpFn-mono}
use types.Logic.{Logic}
use types.Kit.{‵, raw, ◌⊛◌, ◌$◌, ◌∵◌, !, qed, move, keep, split, fjoin, suffices, done}
use types.Part.{agg}
use types.Run.{enter, returns, no_more}
use types.ByLocal.{alloc_all, pass_all, free_all, look_at, sets}
use denote.Exit.{yes}
use denote.RattleType.{RattleType, owns}
use denote.Builtin.{RefOf}
use denote.Ref.{shr_vals, shr_Tells}
use denote.Signature.{plain, types_at}
use denote.Steps.{nothing}
use denote.Triple.Clauses.{Clauses, Ended, closing}
use denote.Triple.Entry.{alive}
use denote.Triple.Spec.{Meets, triple_of}
use denote.Triple.Table.{entered}
use denote.Triple.Walked.{says, Stays, stay_dropped, walk_of, ends_at, walked, walk_Meets, Goes-dropped}
use Rattle.std.specs.contracts.snapshot.Snapshot as Snapshot
use Rattle.steps.proofs.Empty.{empty, empty_made}
use Rattle.steps.specs.contracts.tally.Count as Count
use Rattle.steps.specs.contracts.tally.Count.after as F
use Rattle.steps.specs.contracts.tally.Count.after.Key.{name as #self}
use Rattle.steps.proofs.tally.Count.after.Statement as stated
use Rattle.steps.proofs.tally.Count.after.Code as code

abbrev function : Fn
function = code.function

abbrev ended : Ended
ended = F.ended

-- the snapshot of a count, behind the parameter
abbrev told : RattleType
told = Snapshot.the_row Count.the_row

abbrev stayed : Stays ended.signature.params ended.kept
stayed = (stay_dropped (RefOf (0 ∷ []) tt (plain (λ _. told)) (λ _. tt)) yes, tt)

module _ {M : Type 1} {𝓤 : Ura M} (𝓛 : Logic 𝓤) (at_mem : Memory → SProp 𝓤) (run : Routine → Fun 𝓤) where
  open 𝓛 use {H}

  abbrev held : Clauses 𝓤 ended
  held = F.clauses 𝓛 at_mem run

  meets : (𝓣 : Tables 𝓤 H) → Meets 𝓛 ended.signature (WpFn 𝓤 H 𝓣.C 𝓣.Λ function) (closing 𝓛 ended held)
  meets 𝓣 =
      walk_Meets 𝓛 ended stayed (Goes-dropped 𝓛 1 (RefOf (0 ∷ []) tt (plain (λ _. told)) (λ _. tt)) yes (λ κs x f. refl), tt) held
      (WpFn 𝓤 H 𝓣.C 𝓣.Λ function) (WpFn-mono 𝓤 H 𝓛.laws 𝓣 function)
      (walked 𝓛 ended stayed held (WpFn 𝓤 H 𝓣.C 𝓣.Λ function)
      (λ κs. (shr_vals, tt)) (λ κs. (shr_Tells (named 0) κs.0 told, tt))
      (λ κs qs bounds a g are.
      let p : Val = vptr a.0.ref_ptr.0 a.0.ref_ptr.1 in
      let z : (walk_of 𝓛 ended stayed held).Ghost = ((κs, qs, bounds, a, (p ∷ [], tt)), g) in
      let Post : Val → SProp 𝓤 = (walk_of 𝓛 ended stayed held).post z in
      let made : (Count.the_row).Denot = record { count = a.0.now.value.count + 1 } in
      qed 𝓛 ((raw (alive 𝓛 ended.signature κs qs) ⊛ ‵ (owns (types_at ended.signature.params κs) a z.0.4)) ∷ raw ((held κs a).requires g) ∷ []) ∵
      keep ! (0 ∷ []) $ split ! $ keep ! (0 ∷ []) $
      enter ! 𝓣.C 𝓣.Λ function (p ∷ []) Post $ alloc_all ! (λ l. pass_all ! refl ((tt, tt), tt) $
      sets ! (agg ! (no_more !)) refl (tt, tt) $
      nothing ! $ empty_made ! $ fjoin ! $
      returns ! (look_at ! 0 refl) $ free_all ! refl $
      suffices ! _ (ends_at 𝓛 ended stayed held z empty made (tt, tt) (tt, tt)) $ says ! refl $
      nothing ! $ nothing ! $ fjoin ! $ move ! (2 ∷ 0 ∷ 1 ∷ []) $ done !)))

pub after_spec : {M : Type 1} → stated.statement M
unfolding tables_of
after_spec 𝓤 𝓛 𝓜 𝓡 wired =
    let 𝓣 : Tables 𝓤 𝓛.H = tables_of 𝓤 𝓛.H 𝓜 (tables 𝓤 𝓛.H 𝓜 𝓡 𝓡.env) in
    entered 𝓤 𝓛.H (triple_of 𝓛 ended.signature (closing 𝓛 ended (held 𝓛 𝓜.mem 𝓡.returns))) 𝓣.C 𝓣.Λ #self function
    (code.unfolded 𝓤 𝓛.H 𝓜 𝓡 wired) (meets 𝓛 𝓜.mem 𝓡.returns 𝓣)
