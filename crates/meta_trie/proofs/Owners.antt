-- The owner of a place, and the entries of a bucket.
use Rattle.std.proofs.Common.{◌≡◌, ◌≢◌, ℕ, ◌<◌, inl, inr, List, [], ◌∷◌, Option, Some, sym, ap, ◌∙◌, subst, arith}
use Rattle.std.specs.List.{AllByRecursion}
use Rattle.std.proofs.lemmas.Bool.{cases_order}
use Rattle.key_bytes.proofs.Conditions.{some_same}
use Rattle.anchor_rules.specs.Items.{Item}
use Rattle.row_words.specs.declared.shape.Shape.{Shape}
use Rattle.row_words.specs.Decode.{item_at, IsLive}
use Rattle.meta_trie.specs.Trie.{Entry, bucket_of, Chain, Stands, Names, Apart, HasEntry, named_free, Spare, Holds}
use Rattle.meta_trie.specs.Words.{SameAnchors}

-- an entry is that of this place exactly where it is that of this prefix
abbrev pub IsIt : ℕ → List ℕ → Entry → Type 0
IsIt i name e = (e.at ≡ i → e.name ≡ name) × (e.name ≡ name → e.at ≡ i)

pub has_name : (i : ℕ) (name : List ℕ) (es : List Entry) → HasEntry i name es → Names name es
has_name i name [] h = h
has_name i name (e ∷ es) h = elim h [ inl here ↦ inl here.1 | inr later ↦ inr (has_name i name es later) ]

-- no entry behind e has its prefix
not_again : (i : ℕ) (name : List ℕ) (e : Entry) (es : List Entry) → AllByRecursion (λ (f : Entry). (e.at ≡ f.at → ⊥) × (e.name ≡ f.name → ⊥)) es → HasEntry i name es → e.name ≡ name → ⊥
not_again i name e [] a h same = h
not_again i name e (f ∷ es) a h same = elim h [ inl here ↦ a.0.1 (same ∙ sym here.1) | inr later ↦ not_again i name e es a.1 later same ]

-- the place of a prefix in its bucket is the only one
only_place : (i : ℕ) (name : List ℕ) (es : List Entry) → Apart es → HasEntry i name es → AllByRecursion (λ (e : Entry). e.name ≡ name → e.at ≡ i) es
only_place i name [] a h = tt
only_place i name (e ∷ es) a h = elim h [
  | inl here ↦ (λ same. here.0, later es a.0 here.1)
  | inr there ↦ (λ same. absurd (not_again i name e es a.0 there same), only_place i name es a.1 there)
]
  where
    later : (fs : List Entry) → AllByRecursion (λ (f : Entry). (e.at ≡ f.at → ⊥) × (e.name ≡ f.name → ⊥)) fs → e.name ≡ name → AllByRecursion (λ (f : Entry). f.name ≡ name → f.at ≡ i) fs
    later [] all here = tt
    later (f ∷ fs) all here = (λ same. absurd (all.0.1 (here ∙ sym same)), later fs all.1 here)

module _ (k : Shape) (ws : List ℕ) (known : List ℕ → Option Item) (h : Holds k ws known) (i : ℕ) (name : List ℕ) (mine : h.owner i ≡ Some name) where
  both : (es : List Entry) → AllByRecursion (λ (e : Entry). h.owner e.at ≡ Some e.name) es → AllByRecursion (λ (e : Entry). e.name ≡ name → e.at ≡ i) es → AllByRecursion (IsIt i name) es
  both [] o n = tt
  both (e ∷ es) o n = ((λ at. some_same e.name name (sym o.0 ∙ ap h.owner at ∙ mine), n.0), both es o.1 n.1)

  elsewhere : (b : ℕ) (es : List Entry) → b ≢ bucket_of k name → AllByRecursion (Stands k ws known b) es → AllByRecursion (λ (e : Entry). e.name ≡ name → e.at ≡ i) es
  elsewhere b [] ne s = tt
  elsewhere b (e ∷ es) ne s = (λ same. absurd (ne (sym s.0.here ∙ ap (bucket_of k) same)), elsewhere b es ne s.1)

  pub its : (b : ℕ) → b < k.heads → AllByRecursion (IsIt i name) (h.buckets b)
  its b lt = both (h.buckets b) (h.owned b lt) (elim (cases_order b (bucket_of k name)) [
    | inl same ↦ subst (λ (c : ℕ). AllByRecursion (λ (e : Entry). e.name ≡ name → e.at ≡ i) (h.buckets c)) (sym same) (only_place i name (h.buckets (bucket_of k name)) (subst (λ (c : ℕ). Apart (h.buckets c)) same (h.apart b lt)) (h.mine i name mine))
    | inr other ↦ elsewhere b (h.buckets b) (elim other [ inl below ↦ λ e. omega (arith, e, below) | inr above ↦ λ e. omega (arith, e, above) ]) (h.standing b lt)
  ])

-- chains whose links stay
pub chain_kept : (k : Shape) (old new : List ℕ) (es : List Entry) (link : ℕ) → AllByRecursion (λ (e : Entry). (item_at k new e.at).next ≡ (item_at k old e.at).next) es → Chain k old link es → Chain k new link es
chain_kept k old new [] link n c = c
chain_kept k old new (e ∷ es) link n c = (c.0, subst (λ (x : ℕ). Chain k new x es) (sym n.0) (chain_kept k old new es _ n.1 c.1))

pub spare_kept : (k : Shape) (old new : List ℕ) (js : List ℕ) (link : ℕ) → AllByRecursion (λ (j : ℕ). (item_at k new j).next ≡ (item_at k old j).next) js → Spare k old link js → Spare k new link js
spare_kept k old new [] link n c = c
spare_kept k old new (j ∷ js) link n c = (c.0, subst (λ (x : ℕ). Spare k new x js) (sym (ap (named_free k.items j) n.0)) (spare_kept k old new js _ n.1 c.1))

pub live_kept : (k : Shape) (old new : List ℕ) → SameAnchors k old new → (leaf : ℕ) → IsLive k old leaf → IsLive k new leaf
live_kept k old new same leaf live = let e = (same leaf live).0 in (live.0, omega (arith, e, live.1), omega (arith, e, live.2))
