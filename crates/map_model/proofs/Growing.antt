-- One stretch of a history after another.
use Rattle.std.proofs.Common.{◌≡◌, ℕ, List, [], ◌∷◌, ◌++◌, Bool, sym, ap, subst, ◌∙◌, append_assoc, length}
use Rattle.std.proofs.lemmas.List.{append-nil}
use Rattle.map_model.specs.History.{Entry, IsLegal, own, entry_of}
use Rattle.map_model.specs.Calls.{Call, Reply}
use Rattle.map_model.specs.Ordered.{Follows, Grows, Enters, EntersLast, Stays}
use Rattle.map_model.proofs.Histories.{begins_itself, begins_trans}

pub follows_then : (a b c : List Entry → Type 0) (R S T : List Entry → List Entry → Type 0) → ((old mid new : List Entry) → R old mid → S mid new → T old new) → Follows a b R → Follows b c S → Follows a c T
follows_then a b c R S T joins first second old history =
    let p = first old history in
    let q = second p.0 p.1 in
    (q.0, q.1, joins old p.0 q.0 p.2 q.2)

pub follows_weaker : (a b : List Entry → Type 0) (R S : List Entry → List Entry → Type 0) → ((old new : List Entry) → R old new → S old new) → Follows a b R → Follows a b S
follows_weaker a b R S weaker follows old history = let p = follows old history in (p.0, p.1, weaker old p.0 p.2)

pub follows_itself : (a : List Entry → Type 0) (R : List Entry → List Entry → Type 0) → ((old : List Entry) → a old → R old old) → Follows a a R
follows_itself a R same old history = (old, history, same old history)

pub grows_more : (lane : ℕ) (sole : Bool) (E F : List Entry) (old mid new : List Entry) → Grows lane sole E old mid → Grows lane sole F mid new → Grows lane sole (E ++ F) old new
grows_more lane sole E F old mid new p q = record {
  begins = begins_trans old mid new p.begins q.begins;
  legal = q.legal;
  mine = q.mine ∙ (ap (λ w. w ++ F) p.mine ∙ append_assoc (own lane old) E F);
  alone = λ is. q.alone is ∙ (ap (λ w. w ++ F) (p.alone is) ∙ append_assoc old E F);
}

pub stays : (lane : ℕ) (sole : Bool) (old : List Entry) → IsLegal old → Stays lane sole old old
stays lane sole old legal = record { begins = begins_itself old; legal = legal; mine = sym (append-nil (own lane old)); alone = λ is. sym (append-nil old) }

-- where a lane has no new entry, its next one is the same
pub same_entry : (lane : ℕ) (sole : Bool) (call : Call) (reply : Reply) (old mid : List Entry) → Stays lane sole old mid → entry_of lane mid call reply ≡ entry_of lane old call reply
same_entry lane sole call reply old mid p = ap (λ (h : List Entry). record { lane = lane; number = length h; call = call; reply = reply }) (p.mine ∙ append-nil (own lane old))

pub stays_enters : (lane : ℕ) (sole : Bool) (call : Call) (reply : Reply) (old mid new : List Entry) → Stays lane sole old mid → Enters lane sole call reply mid new → Enters lane sole call reply old new
stays_enters lane sole call reply old mid new p q =
    subst (λ e. Grows lane sole (e ∷ []) old new) (same_entry lane sole call reply old mid p) (grows_more lane sole [] _ old mid new p q)

pub stays_enters_last : (lane : ℕ) (sole : Bool) (call : Call) (reply : Reply) (old mid new : List Entry) → Stays lane sole old mid → EntersLast lane sole call reply mid new → EntersLast lane sole call reply old new
stays_enters_last lane sole call reply old mid new p q = record {
  enters = stays_enters lane sole call reply old mid new p q.enters;
  last = (q.last.0, q.last.1 ∙ ap (λ (e : Entry). q.last.0 ++ e ∷ []) (same_entry lane sole call reply old mid p));
}

pub enters_stays : (lane : ℕ) (sole : Bool) (call : Call) (reply : Reply) (old mid new : List Entry) → Enters lane sole call reply old mid → Stays lane sole mid new → Enters lane sole call reply old new
enters_stays lane sole call reply old mid new p q = grows_more lane sole (entry_of lane old call reply ∷ []) [] old mid new p q

-- of whole calls: nothing, and then a call or nothing again
pub follows_stays_enters : (a b c : List Entry → Type 0) (lane : ℕ) (sole : Bool) (call : Call) (reply : Reply) → Follows a b (Stays lane sole) → Follows b c (Enters lane sole call reply) → Follows a c (Enters lane sole call reply)
follows_stays_enters a b c lane sole call reply = follows_then a b c _ _ _ (stays_enters lane sole call reply)

pub follows_stays_stays : (a b c : List Entry → Type 0) (lane : ℕ) (sole : Bool) → Follows a b (Stays lane sole) → Follows b c (Stays lane sole) → Follows a c (Stays lane sole)
follows_stays_stays a b c lane sole = follows_then a b c _ _ _ (grows_more lane sole [] [])

pub follows_told : (a b : List Entry → Type 0) (R S : List Entry → List Entry → Type 0) → ((old new : List Entry) → a old → R old new → S old new) → Follows a b R → Follows a b S
follows_told a b R S weaker follows old history = let p = follows old history in (p.0, p.1, weaker old p.0 history p.2)
