-- Writing the item of a prefix anew, where its link stays.
use Rattle.std.proofs.Common.{◌≡◌, ◌≢◌, ℕ, ◌<◌, inl, inr, List, [], ◌∷◌, length, take, Option, Some, None, sym, ap, ◌∙◌, refl, subst, arith}
use Rattle.std.specs.Prelude.{Bool, true, false, if◌then◌else◌}
use Rattle.std.specs.List.{AllByRecursion}
use Rattle.std.proofs.lemmas.Bool.{cases_order}
use Rattle.key_bytes.specs.Order.{is_same}
use Rattle.key_bytes.proofs.Orders.{same_is, same_itself}
use Rattle.anchor_rules.specs.Items.{Item}
use Rattle.anchor_rules.proofs.ItemParts.{all_both}
use Rattle.row_words.specs.declared.shape.Shape.{Shape}
use Rattle.row_words.specs.declared.rows.ItemRow.{ItemRow}
use Rattle.row_words.specs.Decode.{hash_at, item_at, anchor_at, IsLive}
use Rattle.meta_trie.specs.Trie.{Says, Entry, bucket_of, Chain, Stands, Names, Spare, Holds}
use Rattle.meta_trie.specs.Words.{Changed, with_item}
use Rattle.meta_trie.proofs.Owners.{IsIt, its, has_name, chain_kept, spare_kept, live_kept}
use Rattle.meta_trie.proofs.Lists.{not_same}

pub with_other : (known : List ℕ → Option Item) (name : List ℕ) (it : Item) (p : List ℕ) → p ≢ name → with_item known name it p ≡ known p
with_other known name it p ne = ap (λ (t : Bool). if t then Some it else known p) (not_same p name ne)

pub with_here : (known : List ℕ → Option Item) (name : List ℕ) (it : Item) → with_item known name it name ≡ Some it
with_here known name it = ap (λ (t : Bool). if t then Some it else known name) (same_itself name)

module _ (k : Shape) (old new : List ℕ) (known : List ℕ → Option Item) (i : ℕ) (name : List ℕ) (row : ItemRow) (it : Item) (h : Holds k old known) (mine : h.owner i ≡ Some name) (c : Changed k old new i row) (says : Says row it) (len : row.len ≡ length name) (live : IsLive k old row.leftmost) (named : take (length name) (anchor_at k old row.leftmost) ≡ name) where
  next_same : (j : ℕ) → j < k.items → (item_at k new j).next ≡ (item_at k old j).next
  next_same j lt = elim (cases_order j i) [
    | inl same ↦ ap (λ (x : ℕ). (item_at k new x).next) same ∙ ap (λ (r : ItemRow). r.next) c.item ∙ ap (λ (x : ℕ). (item_at k old x).next) (sym same)
    | inr other ↦ ap (λ (r : ItemRow). r.next) (c.items j (elim other [ inl below ↦ λ e. omega (arith, e, below) | inr above ↦ λ e. omega (arith, e, above) ]) lt).item
  ]

  -- another entry stays
  stands_other : (b : ℕ) (e : Entry) → e.at ≢ i → e.name ≢ name → Stands k old known b e → Stands k new (with_item known name it) b e
  stands_other b e ne other s =
      let same = c.items e.at ne s.in_range in
      let left : (item_at k new e.at).leftmost ≡ (item_at k old e.at).leftmost = ap (λ (r : ItemRow). r.leftmost) same.item in
      record {
        in_range = s.in_range;
        here = s.here;
        hash = same.hash ∙ s.hash;
        len = ap (λ (r : ItemRow). r.len) same.item ∙ s.len;
        live = subst (IsLive k new) (sym left) (live_kept k old new c.anchors _ s.live);
        named = ap (λ (leaf : ℕ). take (length e.name) (anchor_at k new leaf)) left ∙ ap (take (length e.name)) (c.anchors _ s.live).1 ∙ s.named;
        said = (s.said.0, with_other known name it e.name other ∙ s.said.1, subst (λ (r : ItemRow). Says r s.said.0) (sym same.item) s.said.2);
      }

  -- the changed one is as it was written
  stands_here : (b : ℕ) (e : Entry) → e.at ≡ i → e.name ≡ name → Stands k old known b e → Stands k new (with_item known name it) b e
  stands_here b e at is s =
      let written : item_at k new e.at ≡ record row { next = (item_at k old i).next } = ap (item_at k new) at ∙ c.item in
      record {
        in_range = s.in_range;
        here = s.here;
        hash = ap (hash_at k new) at ∙ c.hash ∙ ap (hash_at k old) (sym at) ∙ s.hash;
        len = ap (λ (r : ItemRow). r.len) written ∙ len ∙ ap length (sym is);
        live = subst (λ (r : ItemRow). IsLive k new r.leftmost) (sym written) (live_kept k old new c.anchors _ live);
        named = ap (λ (r : ItemRow). take (length e.name) (anchor_at k new r.leftmost)) written ∙ ap (take (length e.name)) (c.anchors _ live).1 ∙ subst (λ (p : List ℕ). take (length p) (anchor_at k old row.leftmost) ≡ p) (sym is) named;
        said = (it, ap (with_item known name it) is ∙ with_here known name it, subst (λ (r : ItemRow). Says r it) (sym written) (record { anchor = says.anchor; first = says.first; last = says.last; children = says.children }));
      }

  stands_new : (b : ℕ) (e : Entry) → Stands k old known b e → IsIt i name e → Stands k new (with_item known name it) b e
  stands_new b e s is = elim (cases_order e.at i) [
    | inl same ↦ stands_here b e same (is.0 same) s
    | inr other ↦
        let ne : e.at ≢ i = elim other [ inl below ↦ λ q. omega (arith, q, below) | inr above ↦ λ q. omega (arith, q, above) ] in
        stands_other b e ne (λ q. ne (is.1 q)) s
  ]

  all_next : (b : ℕ) (es : List Entry) → AllByRecursion (Stands k old known b) es → AllByRecursion (λ (e : Entry). (item_at k new e.at).next ≡ (item_at k old e.at).next) es
  all_next b [] s = tt
  all_next b (e ∷ es) s = (next_same e.at s.0.in_range, all_next b es s.1)

  free_next : (js : List ℕ) → AllByRecursion (λ (j : ℕ). (j < k.items) × (h.owner j ≡ None)) js → AllByRecursion (λ (j : ℕ). (item_at k new j).next ≡ (item_at k old j).next) js
  free_next [] u = tt
  free_next (j ∷ js) u = (next_same j u.0.0, free_next js u.1)

  completes : (p : List ℕ) (x : Item) → with_item known name it p ≡ Some x → Names p (h.buckets (bucket_of k p))
  completes p x is = elim (is_same p name) as (λ (t : Bool). is_same p name ≡ t → (if t then Some it else known p) ≡ Some x → Names p (h.buckets (bucket_of k p))) [
    | true ↦ λ same e. subst (λ (q : List ℕ). Names q (h.buckets (bucket_of k q))) (sym (same_is p name same)) (has_name i name (h.buckets (bucket_of k name)) (h.mine i name mine))
    | false ↦ λ other e. h.complete p x e
  ] refl is

  pub changed : Holds k new (with_item known name it)
  changed = record {
    ranges = h.ranges;
    buckets = h.buckets;
    chained = λ b lt. subst (λ (n : ℕ). Chain k new n (h.buckets b)) (sym (c.heads b lt)) (chain_kept k old new (h.buckets b) _ (all_next b (h.buckets b) (h.standing b lt)) (h.chained b lt));
    standing = λ b lt. all_both (Stands k old known b) (IsIt i name) (Stands k new (with_item known name it) b) (stands_new b) (h.buckets b) (h.standing b lt) (its k old known h i name mine b lt);
    apart = h.apart;
    complete = completes;
    owner = h.owner;
    owned = h.owned;
    mine = h.mine;
    free = h.free;
    spare = subst (λ (n : ℕ). Spare k new n h.free) (sym c.free) (spare_kept k old new h.free _ (free_next h.free h.unowned) h.spare);
    unowned = h.unowned;
    unlike = h.unlike;
    whole = h.whole;
    counted = omega (arith, h.counted, c.used);
  }

  pub changed-owner : (j : ℕ) → changed.owner j ≡ h.owner j
  unfolding changed
  changed-owner j = refl
