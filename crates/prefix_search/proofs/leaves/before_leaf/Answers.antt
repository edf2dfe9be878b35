use Rattle.std.proofs.Common.{◌≡◌, ◌-◌, ◌+◌, ℕ, ◌∙◌, arith}
use Rattle.prefix_search.proofs.Tables.{before_leaf}
use Rattle.prefix_search.proofs.leaves.before_leaf.Goals as goal

less_one : (n m : ℕ) → n ≡ m + 1 → n - 1 ≡ m
less_one n m e = omega arith

pub previous-requires : goal.previous-requires
previous-requires g c =
    let l = c.requires.leaf c.requires.table.0 c.requires.table.1 in
    (before_leaf _ _ _ _ l.0 c.requires.table.1 l.1 l.2).live

pub overflow_sub-result : goal.overflow_sub-result
overflow_sub-result g c =
    let l = c.requires.leaf c.requires.table.0 c.requires.table.1 in
    let b = before_leaf _ _ _ _ l.0 c.requires.table.1 l.1 l.2 in
    omega (arith, c.previous.ensures.value ∙ b.link)

pub returns-clause-leaf : goal.returns-clause-leaf
returns-clause-leaf g c = λ A s.
    let l = c.requires.leaf A s in
    less_one _ _ (c.previous.ensures.value ∙ (before_leaf _ _ A _ l.0 s l.1 l.2).link)
