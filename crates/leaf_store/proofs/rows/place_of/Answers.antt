use Rattle.std.proofs.Common.{sym, Option, Some, None, MatchOption}
use Rattle.leaf_store.proofs.rows.place_of.Goals as goal

matched : {X : Type 0} {A A' : Type 0} {B B' : X → Type 0} (o : Option X) → MatchOption o A B → (A → A') → ((x : X) → B x → B' x) → MatchOption o A' B'
matched None h f g = f h
matched (Some x) h f g = g x h

pub returns : goal.returns
returns g c =
    matched c.find.result c.find.ensures.found
    (λ none. λ place d has. sym (none place has d))
    (λ place some. (c.requires place some.0, λ d. sym (some.1 d)))
