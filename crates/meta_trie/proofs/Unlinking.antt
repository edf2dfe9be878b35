-- Taking an item out of its bucket.
use Rattle.std.proofs.Common.{◌≡◌, ◌≢◌, ℕ, ◌+◌, ◌<◌, ◌≤◌, inl, inr, List, [], ◌∷◌, ◌++◌, length, take, Option, Some, None, sym, ap, ◌∙◌, refl, subst, arith, eqb-true, eq-eqb}
use Rattle.std.specs.Prelude.{Bool, true, false, ◌==◌, if◌then◌else◌}
use Rattle.std.specs.List.{AllByRecursion}
use mathlib.Core.Bool.{false≢true}
use Rattle.std.proofs.lemmas.Bool.{ne_eqb, eqb-false}
use Rattle.key_bytes.specs.Order.{is_same}
use Rattle.key_bytes.proofs.Conditions.{some_same}
use Rattle.key_bytes.proofs.Orders.{same_itself}
use Rattle.anchor_rules.specs.Items.{Item}
use Rattle.anchor_rules.proofs.ItemParts.{all_both, all_parts}
use Rattle.row_words.specs.declared.shape.Shape.{Shape}
use Rattle.row_words.specs.declared.rows.ItemRow.{ItemRow}
use Rattle.row_words.specs.Decode.{head_at, item_at, anchor_at, IsLive}
use Rattle.meta_trie.specs.Trie.{Says, Entry, bucket_of, Chain, Stands, Names, Apart, HasEntry, Spare, Among, Holds, last_link, IsFound}
use Rattle.meta_trie.specs.declared.finds.Found.{Found}
use Rattle.meta_trie.specs.Words.{Unlinked, without_item}
use Rattle.meta_trie.proofs.Owners.{IsIt, its, chain_kept, spare_kept, live_kept}
use Rattle.meta_trie.proofs.Lists.{not_same, all_at}

-- without one in the middle
all_cut : (P : Entry → Type 0) (front : List Entry) (e : Entry) (back : List Entry) → AllByRecursion P (front ++ e ∷ back) → AllByRecursion P (front ++ back)
all_cut P [] e back a = a.1
all_cut P (f ∷ front) e back a = (a.0, all_cut P front e back a.1)

apart_cut : (front : List Entry) (e : Entry) (back : List Entry) → Apart (front ++ e ∷ back) → Apart (front ++ back)
apart_cut [] e back a = a.1
apart_cut (f ∷ front) e back a = (all_cut (λ (g : Entry). (f.at ≡ g.at → ⊥) × (f.name ≡ g.name → ⊥)) front e back a.0, apart_cut front e back a.1)

-- an entry has another place and another prefix
abbrev Other : ℕ → List ℕ → Entry → Type 0
Other i name e = (e.at ≢ i) × (e.name ≢ name)

turned : (e : Entry) (es : List Entry) → AllByRecursion (λ (g : Entry). (e.at ≡ g.at → ⊥) × (e.name ≡ g.name → ⊥)) es → AllByRecursion (Other e.at e.name) es
turned e [] a = tt
turned e (f ∷ es) a = ((λ x. a.0.0 (sym x), λ x. a.0.1 (sym x)), turned e es a.1)

others_cut : (front : List Entry) (e : Entry) (back : List Entry) → Apart (front ++ e ∷ back) → AllByRecursion (Other e.at e.name) (front ++ back)
others_cut [] e back a = turned e back a.0
others_cut (f ∷ front) e back a = (all_at (λ (g : Entry). (f.at ≡ g.at → ⊥) × (f.name ≡ g.name → ⊥)) front e back a.0, others_cut front e back a.1)

names_cut : (p : List ℕ) (front : List Entry) (e : Entry) (back : List Entry) → e.name ≢ p → Names p (front ++ e ∷ back) → Names p (front ++ back)
names_cut p [] e back ne n = elim n [ inl here ↦ absurd (ne here) | inr later ↦ later ]
names_cut p (f ∷ front) e back ne n = elim n [ inl here ↦ inl here | inr later ↦ inr (names_cut p front e back ne later) ]

entry_cut : (j : ℕ) (p : List ℕ) (front : List Entry) (e : Entry) (back : List Entry) → e.at ≢ j → HasEntry j p (front ++ e ∷ back) → HasEntry j p (front ++ back)
entry_cut j p [] e back ne n = elim n [ inl here ↦ absurd (ne here.0) | inr later ↦ later ]
entry_cut j p (f ∷ front) e back ne n = elim n [ inl here ↦ inl here | inr later ↦ inr (entry_cut j p front e back ne later) ]

-- the last of the entries is one of them
last_far : (front : List Entry) (x : ℕ) → AllByRecursion (λ (f : Entry). f.at ≢ x) front → last_link front ≢ x + 1
last_far [] x a e = omega (arith, e)
last_far (f ∷ []) x a e = let same : f.at ≡ x = omega (arith, e) in a.0 same
last_far (f ∷ g ∷ front) x a e = last_far (g ∷ front) x a.1 e

last_some : (f : Entry) (front : List Entry) → last_link (f ∷ front) ≢ 0
last_some f [] e = omega (arith, e)
last_some f (g ∷ front) e = last_some g front e

-- one bucket set
abbrev set_bucket : ℕ → List Entry → (ℕ → List Entry) → ℕ → List Entry
set_bucket b es buckets c = if c == b then es else buckets c

in_set : (b : ℕ) (es : List Entry) (buckets : ℕ → List Entry) (P : ℕ → List Entry → Type 0) → P b es → ((c : ℕ) → c ≢ b → P c (buckets c)) → (c : ℕ) → P c (set_bucket b es buckets c)
in_set b es buckets P here there c = elim (c == b) as (λ (t : Bool). (c == b) ≡ t → P c (if t then es else buckets c)) [
  | true ↦ λ is. subst (λ (d : ℕ). P d es) (sym (eqb-true c b is)) here
  | false ↦ λ is. there c (eqb-false c b is)
] refl

-- one place has no owner
abbrev disowns : ℕ → (ℕ → Option (List ℕ)) → ℕ → Option (List ℕ)
disowns i owner j = if j == i then None else owner j

disowns_here : (i : ℕ) (owner : ℕ → Option (List ℕ)) → disowns i owner i ≡ None
disowns_here i owner = ap (λ (t : Bool). if t then None else owner i) (eq-eqb i i refl)

disowns_other : (i : ℕ) (owner : ℕ → Option (List ℕ)) (j : ℕ) → j ≢ i → disowns i owner j ≡ owner j
disowns_other i owner j ne = ap (λ (t : Bool). if t then None else owner j) (ne_eqb j i ne)

module _ (k : Shape) (old new : List ℕ) (known : List ℕ → Option Item) (i : ℕ) (name : List ℕ) (before : ℕ) (h : Holds k old known) (mine : h.owner i ≡ Some name) (front back : List Entry) (whole : h.buckets (bucket_of k name) ≡ front ++ record { at = i; name = name } ∷ back) (behind : before ≡ last_link front) (u : Unlinked k old new i before (bucket_of k name)) where
  b : ℕ
  b = bucket_of k name

  lt : bucket_of k name < k.heads
  lt = let some = h.ranges.heads.0 in omega arith

  apart_all : Apart (front ++ record { at = i; name = name } ∷ back)
  apart_all = subst Apart whole (h.apart (bucket_of k name) lt)

  standing_all : AllByRecursion (Stands k old known (bucket_of k name)) (front ++ record { at = i; name = name } ∷ back)
  standing_all = subst (AllByRecursion (Stands k old known (bucket_of k name))) whole (h.standing (bucket_of k name) lt)

  owned_all : AllByRecursion (λ (e : Entry). h.owner e.at ≡ Some e.name) (front ++ record { at = i; name = name } ∷ back)
  owned_all = subst (AllByRecursion (λ (e : Entry). h.owner e.at ≡ Some e.name)) whole (h.owned (bucket_of k name) lt)

  others : AllByRecursion (Other i name) (front ++ back)
  others = others_cut front (record { at = i; name = name }) back apart_all

  in_range : i < k.items
  in_range = (all_at (Stands k old known (bucket_of k name)) front (record { at = i; name = name }) back standing_all).in_range

  -- the links of all others stay, but for the one before
  next_far : (j : ℕ) → j ≢ i → before ≢ j + 1 → j < k.items → (item_at k new j).next ≡ (item_at k old j).next
  next_far j ne far jl = ap (λ (r : ItemRow). r.next) (u.items j ne jl) ∙ ap (λ (t : Bool). if t then (item_at k old i).next else (item_at k old j).next) (ne_eqb before (j + 1) far)

  next_last : (j : ℕ) → j ≢ i → before ≡ j + 1 → j < k.items → (item_at k new j).next ≡ (item_at k old i).next
  next_last j ne at jl = ap (λ (r : ItemRow). r.next) (u.items j ne jl) ∙ ap (λ (t : Bool). if t then (item_at k old i).next else (item_at k old j).next) (eq-eqb before (j + 1) at)

  -- far from the one before, and in range
  abbrev Far : Entry → Type 0
  Far e = (e.at ≢ i) × (before ≢ e.at + 1) × (e.at < k.items)

  nexts : (es : List Entry) → AllByRecursion Far es → AllByRecursion (λ (e : Entry). (item_at k new e.at).next ≡ (item_at k old e.at).next) es
  nexts [] f = tt
  nexts (e ∷ es) f = (next_far e.at f.0.0 f.0.1 f.0.2, nexts es f.1)

  -- an entry that has another place, in range
  abbrev Here : Entry → Type 0
  Here e = (e.at ≢ i) × (e.at < k.items)

  here_all : AllByRecursion Here (front ++ back)
  here_all = all_both (Other i name) (Stands k old known (bucket_of k name)) Here (λ e o s. (o.0, s.in_range)) (front ++ back) others (all_cut (Stands k old known (bucket_of k name)) front (record { at = i; name = name }) back standing_all)

  fars : (x : ℕ) (es : List Entry) → before ≡ x → AllByRecursion (λ (e : Entry). x ≢ e.at + 1) es → AllByRecursion Here es → AllByRecursion Far es
  fars x [] at a r = tt
  fars x (e ∷ es) at a r = ((r.0.0, (λ q. a.0 (sym at ∙ q)), r.0.1), fars x es at a.1 r.1)

  not_zero : (es : List Entry) → AllByRecursion (λ (e : Entry). 0 ≢ e.at + 1) es
  not_zero [] = tt
  not_zero (e ∷ es) = ((λ q. omega (arith, q)), not_zero es)

  not_this : (f : Entry) (es : List Entry) → AllByRecursion (λ (g : Entry). (f.at ≡ g.at → ⊥) × (f.name ≡ g.name → ⊥)) es → AllByRecursion (λ (e : Entry). f.at + 1 ≢ e.at + 1) es
  not_this f [] a = tt
  not_this f (e ∷ es) a = ((λ q. let same : f.at ≡ e.at = omega (arith, q) in a.0.0 same), not_this f es a.1)

  turn : (f : Entry) (es : List Entry) → AllByRecursion (λ (g : Entry). (f.at ≡ g.at → ⊥) × (f.name ≡ g.name → ⊥)) es → AllByRecursion (λ (e : Entry). e.at ≢ f.at) es
  turn f [] a = tt
  turn f (e ∷ es) a = ((λ q. a.0.0 (sym q)), turn f es a.1)

  cut : (f : Entry) (rest : List Entry) (link : ℕ) → Apart (f ∷ rest ++ record { at = i; name = name } ∷ back) → AllByRecursion Here (f ∷ rest ++ back) → before ≡ last_link (f ∷ rest) → Chain k old link (f ∷ rest ++ record { at = i; name = name } ∷ back) → Chain k new link (f ∷ rest ++ back)
  cut f [] link a r at c = (c.0, subst (λ (n : ℕ). Chain k new n back) (sym (next_last f.at r.0.0 at r.0.1)) (chain_kept k old new back _ (nexts back (fars (f.at + 1) back at (not_this f back a.0.1) r.1)) c.1.1))
  cut f (g ∷ rest) link a r at c =
      let apart = turn f (g ∷ rest) (all_parts (λ (x : Entry). (f.at ≡ x.at → ⊥) × (f.name ≡ x.name → ⊥)) (g ∷ rest) (record { at = i; name = name } ∷ back) a.0).0 in
      let far : before ≢ f.at + 1 = λ q. last_far (g ∷ rest) f.at apart (sym at ∙ q) in
      (c.0, subst (λ (n : ℕ). Chain k new n (g ∷ rest ++ back)) (sym (next_far f.at r.0.0 far r.0.1)) (cut g rest _ a.1 r.1 at c.1))

  chain_cut : (es : List Entry) → before ≡ last_link es → Apart (es ++ record { at = i; name = name } ∷ back) → AllByRecursion Here (es ++ back) → Chain k old (head_at k old (bucket_of k name)) (es ++ record { at = i; name = name } ∷ back) → Chain k new (head_at k new (bucket_of k name)) (es ++ back)
  chain_cut [] at a r c =
      subst (λ (n : ℕ). Chain k new n back) (sym (u.head ∙ ap (λ (t : Bool). if t then (item_at k old i).next else head_at k old (bucket_of k name)) (eq-eqb before 0 at))) (chain_kept k old new back _ (nexts back (fars 0 back at (not_zero back) r)) c.1)
  chain_cut (f ∷ es) at a r c =
      subst (λ (n : ℕ). Chain k new n (f ∷ es ++ back)) (sym (u.head ∙ ap (λ (t : Bool). if t then (item_at k old i).next else head_at k old (bucket_of k name)) (ne_eqb before 0 (λ q. last_some f es (sym at ∙ q))))) (cut f es _ a r at c)

  -- the entries of other buckets are others
  others_there : (c : ℕ) (es : List Entry) → c ≢ bucket_of k name → AllByRecursion (Stands k old known c) es → AllByRecursion (IsIt i name) es → AllByRecursion (Other i name) es
  others_there c [] ne s is = tt
  others_there c (e ∷ es) ne s is =
      let apart = λ (q : e.name ≡ name). ne (sym s.0.here ∙ ap (bucket_of k) q) in
      (((λ q. apart (is.0.0 q)), apart), others_there c es ne s.1 is.1)

  -- and far from the one before
  front_apart : (e : Entry) (es : List Entry) → AllByRecursion (Stands k old known (bucket_of k name)) es → AllByRecursion (λ (f : Entry). h.owner f.at ≡ Some f.name) es → (bucket_of k e.name ≢ bucket_of k name) → h.owner e.at ≡ Some e.name → AllByRecursion (λ (f : Entry). f.at ≢ e.at) es
  front_apart e [] s o ne own = tt
  front_apart e (f ∷ es) s o ne own = ((λ q. ne (ap (bucket_of k) (some_same e.name f.name (sym own ∙ ap h.owner (sym q) ∙ o.0)) ∙ s.0.here)), front_apart e es s.1 o.1 ne own)

  standing_front : AllByRecursion (Stands k old known (bucket_of k name)) front
  standing_front = (all_parts (Stands k old known (bucket_of k name)) front (record { at = i; name = name } ∷ back) standing_all).0

  owned_front : AllByRecursion (λ (e : Entry). h.owner e.at ≡ Some e.name) front
  owned_front = (all_parts (λ (e : Entry). h.owner e.at ≡ Some e.name) front (record { at = i; name = name } ∷ back) owned_all).0

  far_there : (c : ℕ) (es : List Entry) → c ≢ bucket_of k name → AllByRecursion (Stands k old known c) es → AllByRecursion (λ (e : Entry). h.owner e.at ≡ Some e.name) es → AllByRecursion (Other i name) es → AllByRecursion Far es
  far_there c [] ne s o x = tt
  far_there c (e ∷ es) ne s o x =
      ((x.0.0, (λ q. last_far front e.at (front_apart e front standing_front owned_front (λ y. ne (sym s.0.here ∙ y)) o.0) (sym behind ∙ q)), s.0.in_range), far_there c es ne s.1 o.1 x.1)

  free_apart : (j : ℕ) (es : List Entry) → AllByRecursion (λ (f : Entry). h.owner f.at ≡ Some f.name) es → h.owner j ≡ None → AllByRecursion (λ (f : Entry). f.at ≢ j) es
  free_apart j [] o none = tt
  free_apart j (f ∷ es) o none = ((λ q. let own : Some f.name ≡ None = sym o.0 ∙ ap h.owner q ∙ none in absurd (cc)), free_apart j es o.1 none)

  free_other : (j : ℕ) → h.owner j ≡ None → j ≢ i
  free_other j none q = let own : Some name ≡ None = sym mine ∙ ap h.owner (sym q) ∙ none in absurd (cc)

  free_next : (js : List ℕ) → AllByRecursion (λ (j : ℕ). (j < k.items) × (h.owner j ≡ None)) js → AllByRecursion (λ (j : ℕ). (item_at k new j).next ≡ (item_at k old j).next) js
  free_next [] o = tt
  free_next (j ∷ js) o = (next_far j (free_other j o.0.1) (λ q. last_far front j (free_apart j front owned_front o.0.1) (sym behind ∙ q)) o.0.0, free_next js o.1)

  without_other : (p : List ℕ) → p ≢ name → without_item known name p ≡ known p
  without_other p ne = ap (λ (t : Bool). if t then None else known p) (not_same p name ne)

  stands_new : (c : ℕ) (e : Entry) → Other i name e → Stands k old known c e → Stands k new (without_item known name) c e
  stands_new c e o s =
      let item = u.items e.at o.0 s.in_range in
      let left : (item_at k new e.at).leftmost ≡ (item_at k old e.at).leftmost = ap (λ (r : ItemRow). r.leftmost) item in
      record {
        in_range = s.in_range;
        here = s.here;
        hash = u.hashes e.at o.0 s.in_range ∙ s.hash;
        len = ap (λ (r : ItemRow). r.len) item ∙ s.len;
        live = subst (IsLive k new) (sym left) (live_kept k old new u.anchors _ s.live);
        named = ap (λ (leaf : ℕ). take (length e.name) (anchor_at k new leaf)) left ∙ ap (take (length e.name)) (u.anchors _ s.live).1 ∙ s.named;
        said = (s.said.0, without_other e.name o.1 ∙ s.said.1, subst (λ (r : ItemRow). Says r s.said.0) (sym item) (record { anchor = s.said.2.anchor; first = s.said.2.first; last = s.said.2.last; children = s.said.2.children }));
      }

  abbrev after : ℕ → List Entry
  after = set_bucket (bucket_of k name) (front ++ back) h.buckets

  others_new : (c : ℕ) → c < k.heads → AllByRecursion (Other i name) (set_bucket (bucket_of k name) (front ++ back) h.buckets c)
  others_new = in_set (bucket_of k name) (front ++ back) h.buckets (λ (c : ℕ) (es : List Entry). c < k.heads → AllByRecursion (Other i name) es)
      (λ l. others)
      (λ c ne l. others_there c (h.buckets c) ne (h.standing c l) (its k old known h i name mine c l))

  kept : (P : Entry → Type 0) → ((c : ℕ) → c < k.heads → AllByRecursion P (h.buckets c)) → (c : ℕ) → c < k.heads → AllByRecursion P (set_bucket (bucket_of k name) (front ++ back) h.buckets c)
  kept P all = in_set (bucket_of k name) (front ++ back) h.buckets (λ (c : ℕ) (es : List Entry). c < k.heads → AllByRecursion P es)
      (λ l. all_cut P front (record { at = i; name = name }) back (subst (AllByRecursion P) whole (all (bucket_of k name) l)))
      (λ c ne l. all c l)

  standing_new : (c : ℕ) → c < k.heads → AllByRecursion (Stands k new (without_item known name) c) (set_bucket (bucket_of k name) (front ++ back) h.buckets c)
  standing_new = in_set (bucket_of k name) (front ++ back) h.buckets (λ (c : ℕ) (es : List Entry). c < k.heads → AllByRecursion (Stands k new (without_item known name) c) es)
      (λ l. all_both (Other i name) (Stands k old known (bucket_of k name)) _ (stands_new (bucket_of k name)) (front ++ back) others (all_cut (Stands k old known (bucket_of k name)) front (record { at = i; name = name }) back standing_all))
      (λ c ne l. all_both (Other i name) (Stands k old known c) _ (stands_new c) (h.buckets c) (others_there c (h.buckets c) ne (h.standing c l) (its k old known h i name mine c l)) (h.standing c l))

  complete_new : (p : List ℕ) (x : Item) → without_item known name p ≡ Some x → Names p (set_bucket (bucket_of k name) (front ++ back) h.buckets (bucket_of k p))
  complete_new p x is = elim (is_same p name) as (λ (t : Bool). is_same p name ≡ t → (if t then None else known p) ≡ Some x → Names p (set_bucket (bucket_of k name) (front ++ back) h.buckets (bucket_of k p))) [
    | true ↦ λ same e. absurd (cc)
    | false ↦ λ other e.
        let ne : name ≢ p = λ q. false≢true (sym other ∙ ap (λ (r : List ℕ). is_same r name) (sym q) ∙ same_itself name) in
        in_set (bucket_of k name) (front ++ back) h.buckets (λ (c : ℕ) (es : List Entry). Names p (h.buckets c) → Names p es)
        (λ n. names_cut p front (record { at = i; name = name }) back ne (subst (Names p) whole n))
        (λ c no n. n)
        (bucket_of k p) (h.complete p x e)
  ] refl is

  mine_new : (j : ℕ) (p : List ℕ) → disowns i h.owner j ≡ Some p → HasEntry j p (set_bucket (bucket_of k name) (front ++ back) h.buckets (bucket_of k p))
  mine_new j p is = elim (j == i) as (λ (t : Bool). (j == i) ≡ t → (if t then None else h.owner j) ≡ Some p → HasEntry j p (set_bucket (bucket_of k name) (front ++ back) h.buckets (bucket_of k p))) [
    | true ↦ λ same e. absurd (cc)
    | false ↦ λ other e.
        let ne : i ≢ j = λ q. eqb-false j i other (sym q) in
        in_set (bucket_of k name) (front ++ back) h.buckets (λ (c : ℕ) (es : List Entry). HasEntry j p (h.buckets c) → HasEntry j p es)
        (λ n. entry_cut j p front (record { at = i; name = name }) back ne (subst (HasEntry j p) whole n))
        (λ c no n. n)
        (bucket_of k p) (h.mine j p e)
  ] refl is

  owned_new : (es : List Entry) → AllByRecursion (Other i name) es → AllByRecursion (λ (e : Entry). h.owner e.at ≡ Some e.name) es → AllByRecursion (λ (e : Entry). disowns i h.owner e.at ≡ Some e.name) es
  owned_new [] x o = tt
  owned_new (e ∷ es) x o = (disowns_other i h.owner e.at x.0.0 ∙ o.0, owned_new es x.1 o.1)

  unowned_new : (js : List ℕ) → AllByRecursion (λ (j : ℕ). (j < k.items) × (h.owner j ≡ None)) js → AllByRecursion (λ (j : ℕ). (j < k.items) × (disowns i h.owner j ≡ None)) js
  unowned_new [] o = tt
  unowned_new (j ∷ js) o = ((o.0.0, disowns_other i h.owner j (free_other j o.0.1) ∙ o.0.1), unowned_new js o.1)

  unlike_new : (js : List ℕ) → AllByRecursion (λ (j : ℕ). (j < k.items) × (h.owner j ≡ None)) js → AllByRecursion (λ (j : ℕ). i ≡ j → ⊥) js
  unlike_new [] o = tt
  unlike_new (j ∷ js) o = ((λ q. free_other j o.0.1 (sym q)), unlike_new js o.1)

  whole_new : (j : ℕ) → j < k.items → disowns i h.owner j ≡ None → Among j (i ∷ h.free)
  whole_new j l is = elim (j == i) as (λ (t : Bool). (j == i) ≡ t → (if t then None else h.owner j) ≡ None → Among j (i ∷ h.free)) [
    | true ↦ λ same e. inl (sym (eqb-true j i same))
    | false ↦ λ other e. inr (h.whole j l e)
  ] refl is

  pub unlinked : Holds k new (without_item known name)
  unlinked = record {
    ranges = h.ranges;
    buckets = set_bucket (bucket_of k name) (front ++ back) h.buckets;
    chained = in_set (bucket_of k name) (front ++ back) h.buckets (λ (c : ℕ) (es : List Entry). c < k.heads → Chain k new (head_at k new c) es)
        (λ l. chain_cut front behind apart_all here_all (subst (Chain k old (head_at k old (bucket_of k name))) whole (h.chained (bucket_of k name) l)))
        (λ c ne l. subst (λ (n : ℕ). Chain k new n (h.buckets c)) (sym (u.heads c ne l)) (chain_kept k old new (h.buckets c) _ (nexts (h.buckets c) (far_there c (h.buckets c) ne (h.standing c l) (h.owned c l) (others_there c (h.buckets c) ne (h.standing c l) (its k old known h i name mine c l)))) (h.chained c l)));
    standing = standing_new;
    apart = in_set (bucket_of k name) (front ++ back) h.buckets (λ (c : ℕ) (es : List Entry). c < k.heads → Apart es)
        (λ l. apart_cut front (record { at = i; name = name }) back apart_all)
        (λ c ne l. h.apart c l);
    complete = complete_new;
    owner = disowns i h.owner;
    owned = λ c l. owned_new _ (others_new c l) (kept (λ (e : Entry). h.owner e.at ≡ Some e.name) h.owned c l);
    mine = mine_new;
    free = i ∷ h.free;
    spare = (u.free, subst (λ (n : ℕ). Spare k new n h.free) (sym u.gone) (spare_kept k old new h.free _ (free_next h.free h.unowned) h.spare));
    unowned = ((in_range, disowns_here i h.owner), unowned_new h.free h.unowned);
    unlike = (unlike_new h.free h.unowned, h.unlike);
    whole = whole_new;
    counted = omega (arith, h.counted, u.used);
  }

  pub unlinked-owner : (j : ℕ) → unlinked.owner j ≡ (if j == i then None else h.owner j)
  unfolding unlinked
  unlinked-owner j = refl

  -- the other places keep their owners
  pub unlinked_other : (j : ℕ) (p : List ℕ) → h.owner j ≡ Some p → j ≢ i → unlinked.owner j ≡ Some p
  unlinked_other j p own ne = unlinked-owner j ∙ ap (λ (t : Bool). if t then None else h.owner j) (ne_eqb j i ne) ∙ own

front_far : (front : List Entry) (e : Entry) (back : List Entry) → Apart (front ++ e ∷ back) → AllByRecursion (λ (f : Entry). f.at ≢ e.at) front
front_far [] e back a = tt
front_far (f ∷ front) e back a = ((all_at (λ (g : Entry). (f.at ≡ g.at → ⊥) × (f.name ≡ g.name → ⊥)) front e back a.0).0, front_far front e back a.1)

last_low : (k : Shape) (ws : List ℕ) (known : List ℕ → Option Item) (b : ℕ) (front : List Entry) → AllByRecursion (Stands k ws known b) front → last_link front ≤ k.items
last_low k ws known b [] s = omega arith
last_low k ws known b (e ∷ []) s = omega (arith, s.0.in_range)
last_low k ws known b (e ∷ f ∷ es) s = last_low k ws known b (f ∷ es) s.1

-- what a walk to an item gives to one who takes it out
pub record Removable (k : Shape) (ws : List ℕ) (known : List ℕ → Option Item) (h : Holds k ws known) (name : List ℕ) (found : Found) : Type 0 where
  pub mine : h.owner found.at ≡ Some name
  pub stands : Stands k ws known (bucket_of k name) (record { at = found.at; name = name })
  pub before_low : found.before ≤ k.items
  pub apart : found.before ≢ found.at + 1

pub removable : (k : Shape) (ws : List ℕ) (known : List ℕ → Option Item) (h : Holds k ws known) (name : List ℕ) (found : Found) → IsFound k ws (h.buckets (bucket_of k name)) name found → Removable k ws known h name found
removable k ws known h name found f =
    let lt : bucket_of k name < k.heads = (let some = h.ranges.heads.0 in omega arith) in
    let e : Entry = record { at = found.at; name = name } in
    let all = subst (AllByRecursion (Stands k ws known (bucket_of k name))) f.whole (h.standing (bucket_of k name) lt) in
    let fronts = (all_parts (Stands k ws known (bucket_of k name)) f.front (e ∷ f.back) all).0 in
    let low = last_low k ws known (bucket_of k name) f.front fronts in
    let far = last_far f.front found.at (front_far f.front e f.back (subst Apart f.whole (h.apart (bucket_of k name) lt))) in
    record {
      mine = all_at (λ (x : Entry). h.owner x.at ≡ Some x.name) f.front e f.back (subst (AllByRecursion (λ (x : Entry). h.owner x.at ≡ Some x.name)) f.whole (h.owned (bucket_of k name) lt));
      stands = all_at (Stands k ws known (bucket_of k name)) f.front e f.back all;
      before_low = omega (arith, low, f.before);
      apart = λ q. far (sym f.before ∙ q);
    }
