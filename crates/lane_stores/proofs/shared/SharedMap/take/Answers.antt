use Rattle.std.proofs.Common.{sym, ◌∙◌, ⊎_elim, arith}
use mathlib.Core.Option.{none}
use Rattle.atomic_table.specs.Table.{step}
use Rattle.lane_stores.proofs.Keeping.{locking}
use Rattle.lane_stores.proofs.shared.SharedMap.take.Goals as goal

pub compare_exchange-requires : goal.compare_exchange-requires
compare_exchange-requires c =
    let m = c.args.self.now in
    let idle = c.requires.idle in
    (c.requires.of, omega (arith, m.sized.0), locking _ _ _ _ _ (idle.fixed ∙ sym m.keyed) idle.idle (omega (arith, idle.below, m.keyed)) (step 0 0 0 0 none))

pub returns-clause-free : goal.returns-clause-free
returns-clause-free c = λ zero. ⊎_elim (λ t. t.1) (λ h. absurd (omega (arith, zero, h.some))) c.compare_exchange.ensures.2

pub returns-clause-held : goal.returns-clause-held
returns-clause-held c = λ some. ⊎_elim (λ t. absurd (some t.0)) (λ h. h) c.compare_exchange.ensures.2
