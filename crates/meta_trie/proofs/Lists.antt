-- Buckets as lists of entries.
use Rattle.std.proofs.Common.{◌≡◌, ◌≢◌, ℕ, ◌+◌, inl, inr, List, [], ◌∷◌, ◌++◌, ap, refl}
use Rattle.std.specs.List.{AllByRecursion}
use Rattle.std.specs.Prelude.{Bool, true, false}
use Rattle.key_bytes.specs.Order.{is_same}
use Rattle.key_bytes.proofs.Orders.{same_is}
use Rattle.meta_trie.specs.Trie.{Entry, Names, last_link}

-- what holds of all entries holds of one of them
pub all_at : (P : Entry → Type 0) (front : List Entry) (e : Entry) (back : List Entry) → AllByRecursion P (front ++ e ∷ back) → P e
all_at P [] e back all = all.0
all_at P (f ∷ front) e back all = all_at P front e back all.1

pub names_at : (front : List Entry) (e : Entry) (back : List Entry) → Names e.name (front ++ e ∷ back)
names_at [] e back = inl refl
names_at (f ∷ front) e back = inr (names_at front e back)

-- the front of a bucket with the next entry
pub front_more : (front : List Entry) (e : Entry) (back : List Entry) → front ++ e ∷ back ≡ (front ++ e ∷ []) ++ back
front_more [] e back = refl
front_more (f ∷ front) e back = ap (λ (es : List Entry). f ∷ es) (front_more front e back)

pub last_link-push : (front : List Entry) (e : Entry) → last_link (front ++ e ∷ []) ≡ e.at + 1
last_link-push [] e = refl
last_link-push (f ∷ []) e = refl
last_link-push (f ∷ g ∷ front) e = last_link-push (g ∷ front) e

-- two byte strings that differ aren't the same
pub not_same : (a b : List ℕ) → a ≢ b → is_same a b ≡ false
not_same a b ne = elim (is_same a b) as (λ (t : Bool). is_same a b ≡ t → is_same a b ≡ false) [
  | true ↦ λ e. absurd (ne (same_is a b e))
  | false ↦ λ e. e
] refl
