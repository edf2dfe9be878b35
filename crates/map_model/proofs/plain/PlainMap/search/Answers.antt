use Rattle.std.proofs.Common.{rules}
use Rattle.std.proofs.lemmas.Fn.{always_returns_same}
use Rattle.key_bytes.specs.Order.{bytes_cmp}
use Rattle.map_model.specs.Places.{Pair}
use Rattle.map_model.proofs.Places.{searched}
use Rattle.map_model.proofs.plain.PlainMap.search.Goals as goal

pub returns : goal.returns
returns c =
    let facts = c.binary_search_by.ensures in
    let by_key = facts.position (λ (p : Pair). bytes_cmp p.0 c.args.key.now) (always_returns_same _ _ _ (λ a r g called. search rules)) in
    rw (← c.self.view_is, ← c.deref.ensures.value) (searched _ (rw c.deref.ensures.value c.self.invariant) c.args.key.now _ facts.bound by_key)
