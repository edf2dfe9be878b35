-- Linking a new item into its bucket.
use Rattle.std.proofs.Common.{◌≡◌, ◌≢◌, ℕ, ◌+◌, ◌-◌, ◌<◌, ◌⊎◌, inl, inr, List, [], ◌∷◌, length, take, Option, Some, None, sym, ap, ◌∙◌, refl, subst, arith, eqb-true}
use Rattle.std.specs.Prelude.{Bool, true, false, ◌==◌, if◌then◌else◌}
use Rattle.std.specs.List.{AllByRecursion}
use Rattle.std.proofs.lemmas.Bool.{ne_eqb, eqb-false}
use Rattle.row_words.specs.declared.shape.Shape.{Shape}
use Rattle.row_words.specs.declared.rows.ItemRow.{ItemRow}
use Rattle.row_words.specs.Decode.{head_at, item_at, anchor_at, IsLive}
use Rattle.key_bytes.specs.Order.{is_same}
use Rattle.anchor_rules.specs.Items.{Item}
use Rattle.meta_trie.specs.Trie.{Says, Entry, bucket_of, Chain, Stands, Names, Apart, Spare, Unlike, Among, HasEntry, Holds, named_free, free_after, used_of, free_of}
use Rattle.meta_trie.specs.Words.{Linked, SameAnchors, with_item}
use Rattle.key_bytes.proofs.Orders.{same_is}
use Rattle.meta_trie.proofs.Changing.{with_here, with_other}

-- what an option is not
some_none : {X : Type 0} (o : Option X) (x : X) → o ≡ Some x → o ≡ None → ⊥
some_none o x a b = cc

-- one entry more in one bucket
abbrev added : Entry → ℕ → (ℕ → List Entry) → ℕ → List Entry
added e b buckets c = if c == b then e ∷ buckets b else buckets c

in_added : (e : Entry) (b : ℕ) (buckets : ℕ → List Entry) (P : ℕ → List Entry → Type 0) → P b (e ∷ buckets b) → ((c : ℕ) → c ≢ b → P c (buckets c)) → (c : ℕ) → P c (added e b buckets c)
in_added e b buckets P here there c = elim (c == b) as (λ (t : Bool). (c == b) ≡ t → P c (if t then e ∷ buckets b else buckets c)) [
  | true ↦ λ is. subst (λ (d : ℕ). P d (e ∷ buckets b)) (sym (eqb-true c b is)) here
  | false ↦ λ is. there c (eqb-false c b is)
] refl

same_number : (i : ℕ) → (i == i) ≡ true
same_number i = elim (i == i) as (λ (t : Bool). (i == i) ≡ t → (i == i) ≡ true) [
  | true ↦ λ e. e
  | false ↦ λ e. absurd (eqb-false i i e refl)
] refl

-- the owner of one place more
abbrev owns : ℕ → List ℕ → (ℕ → Option (List ℕ)) → ℕ → Option (List ℕ)
owns i name owner j = if j == i then Some name else owner j

owns_here : (i : ℕ) (name : List ℕ) (owner : ℕ → Option (List ℕ)) → owns i name owner i ≡ Some name
owns_here i name owner = ap (λ (t : Bool). if t then Some name else owner i) (same_number i)

owns_other : (i : ℕ) (name : List ℕ) (owner : ℕ → Option (List ℕ)) (j : ℕ) → j ≢ i → owns i name owner j ≡ owner j
owns_other i name owner j ne = ap (λ (t : Bool). if t then Some name else owner j) (ne_eqb j i ne)

-- an entry is at another place, and has another prefix
abbrev Other : ℕ → List ℕ → Entry → Type 0
Other i name e = (e.at ≢ i) × (e.name ≢ name)

others : (k : Shape) (ws : List ℕ) (known : List ℕ → Option Item) (owner : ℕ → Option (List ℕ)) (b i : ℕ) (name : List ℕ) (es : List Entry) → owner i ≡ None → known name ≡ None → AllByRecursion (Stands k ws known b) es → AllByRecursion (λ (e : Entry). owner e.at ≡ Some e.name) es → AllByRecursion (Other i name) es
others k ws known owner b i name [] n m s o = tt
others k ws known owner b i name (e ∷ es) n m s o = (
  (λ at. some_none (owner e.at) e.name o.0 (ap owner at ∙ n), λ same. some_none (known e.name) s.0.said.0 s.0.said.1 (ap known same ∙ m)),
  others k ws known owner b i name es n m s.1 o.1,
)

live_same : (k : Shape) (old new : List ℕ) → SameAnchors k old new → (leaf : ℕ) → IsLive k old leaf → IsLive k new leaf
live_same k old new same leaf live = let e = (same leaf live).0 in (live.0, omega (arith, e, live.1), omega (arith, e, live.2))

stays : (k : Shape) (old new : List ℕ) (known : List ℕ → Option Item) (i : ℕ) (name : List ℕ) (row : ItemRow) (it : Item) (b : ℕ) (e : Entry) → Linked k old new i name row → Other i name e → Stands k old known b e → Stands k new (with_item known name it) b e
stays k old new known i name row it b e l other s =
    let same = l.items e.at other.0 s.in_range in
    let left : (item_at k new e.at).leftmost ≡ (item_at k old e.at).leftmost = ap (λ (r : ItemRow). r.leftmost) same.item in
    record {
      in_range = s.in_range;
      here = s.here;
      hash = same.hash ∙ s.hash;
      len = ap (λ (r : ItemRow). r.len) same.item ∙ s.len;
      live = subst (IsLive k new) (sym left) (live_same k old new l.anchors _ s.live);
      named = ap (λ (leaf : ℕ). take (length e.name) (anchor_at k new leaf)) left ∙ ap (take (length e.name)) (l.anchors _ s.live).1 ∙ s.named;
      said = (s.said.0, with_other known name it e.name other.1 ∙ s.said.1, subst (λ (r : ItemRow). Says r s.said.0) (sym same.item) s.said.2);
    }

stay : (k : Shape) (old new : List ℕ) (known : List ℕ → Option Item) (i : ℕ) (name : List ℕ) (row : ItemRow) (it : Item) (b : ℕ) (es : List Entry) → Linked k old new i name row → AllByRecursion (Other i name) es → AllByRecursion (Stands k old known b) es → AllByRecursion (Stands k new (with_item known name it) b) es
stay k old new known i name row it b [] l o s = tt
stay k old new known i name row it b (e ∷ es) l o s = (stays k old new known i name row it b e l o.0 s.0, stay k old new known i name row it b es l o.1 s.1)

chain_stays : (k : Shape) (old new : List ℕ) (known : List ℕ → Option Item) (i : ℕ) (name : List ℕ) (row : ItemRow) (b : ℕ) (es : List Entry) (link : ℕ) → Linked k old new i name row → AllByRecursion (Other i name) es → AllByRecursion (Stands k old known b) es → Chain k old link es → Chain k new link es
chain_stays k old new known i name row b [] link l o s c = c
chain_stays k old new known i name row b (e ∷ es) link l o s c =
    (c.0, subst (λ (n : ℕ). Chain k new n es) (sym (ap (λ (r : ItemRow). r.next) (l.items e.at o.0.0 s.0.in_range).item)) (chain_stays k old new known i name row b es _ l o.1 s.1 c.1))

owned_stays : (i : ℕ) (name : List ℕ) (owner : ℕ → Option (List ℕ)) (es : List Entry) → AllByRecursion (Other i name) es → AllByRecursion (λ (e : Entry). owner e.at ≡ Some e.name) es → AllByRecursion (λ (e : Entry). owns i name owner e.at ≡ Some e.name) es
owned_stays i name owner [] o h = tt
owned_stays i name owner (e ∷ es) o h = (owns_other i name owner e.at o.0.0 ∙ h.0, owned_stays i name owner es o.1 h.1)

apart_new : (i : ℕ) (name : List ℕ) (es : List Entry) → AllByRecursion (Other i name) es → AllByRecursion (λ (f : Entry). (i ≡ f.at → ⊥) × (name ≡ f.name → ⊥)) es
apart_new i name [] o = tt
apart_new i name (e ∷ es) o = ((λ x. o.0.0 (sym x), λ x. o.0.1 (sym x)), apart_new i name es o.1)

spare_stays : (k : Shape) (old new : List ℕ) (i : ℕ) (name : List ℕ) (row : ItemRow) (owner : ℕ → Option (List ℕ)) (js : List ℕ) (link : ℕ) → Linked k old new i name row → AllByRecursion (λ (j : ℕ). i ≡ j → ⊥) js → AllByRecursion (λ (j : ℕ). (j < k.items) × (owner j ≡ None)) js → Spare k old link js → Spare k new link js
spare_stays k old new i name row owner [] link l u o c = c
spare_stays k old new i name row owner (j ∷ js) link l u o c =
    (c.0, subst (λ (n : ℕ). Spare k new n js) (sym (ap (λ (r : ItemRow). named_free k.items j r.next) (l.items j (λ x. u.0 (sym x)) o.0.0).item)) (spare_stays k old new i name row owner js _ l u.1 o.1 c.1))

unowned_stays : (k : Shape) (i : ℕ) (name : List ℕ) (owner : ℕ → Option (List ℕ)) (js : List ℕ) → AllByRecursion (λ (j : ℕ). i ≡ j → ⊥) js → AllByRecursion (λ (j : ℕ). (j < k.items) × (owner j ≡ None)) js → AllByRecursion (λ (j : ℕ). (j < k.items) × (owns i name owner j ≡ None)) js
unowned_stays k i name owner [] u o = tt
unowned_stays k i name owner (j ∷ js) u o = ((o.0.0, owns_other i name owner j (λ x. u.0 (sym x)) ∙ o.0.1), unowned_stays k i name owner js u.1 o.1)

among_later : (i j : ℕ) (js : List ℕ) → j ≢ i → Among j (i ∷ js) → Among j js
among_later i j js ne a = elim a [ inl same ↦ absurd (ne (sym same)) | inr later ↦ later ]

-- what the first free item is
pub record FirstFree (k : Shape) (ws : List ℕ) (owner : ℕ → Option (List ℕ)) (free : List ℕ) (i : ℕ) : Type 0 where
  pub rest : List ℕ
  pub whole : free ≡ i ∷ rest
  pub spare : Spare k ws (free_after k ws i) rest
  pub in_range : i < k.items
  pub unowned : owner i ≡ None
  pub others : AllByRecursion (λ (j : ℕ). i ≡ j → ⊥) rest
  pub unlike : Unlike rest
  pub rest_unowned : AllByRecursion (λ (j : ℕ). (j < k.items) × (owner j ≡ None)) rest

first_free : (k : Shape) (ws : List ℕ) (owner : ℕ → Option (List ℕ)) (free : List ℕ) (i : ℕ) → Spare k ws (i + 1) free → AllByRecursion (λ (j : ℕ). (j < k.items) × (owner j ≡ None)) free → Unlike free → FirstFree k ws owner free i
first_free k ws owner [] i s o u = absurd (omega (arith, s))
first_free k ws owner (j ∷ js) i s o u =
    let same : j ≡ i = omega (arith, s.0) in
    subst (λ (n : ℕ). FirstFree k ws owner (j ∷ js) n) same (record { rest = js; whole = refl; spare = s.1; in_range = o.0.0; unowned = o.0.1; others = u.0; unlike = u.1; rest_unowned = o.1 })

-- the new entry
abbrev entry : ℕ → List ℕ → Entry
entry i name = record { at = i; name = name }

added_here : (e : Entry) (b : ℕ) (buckets : ℕ → List Entry) → added e b buckets b ≡ e ∷ buckets b
added_here e b buckets = ap (λ (t : Bool). if t then e ∷ buckets b else buckets b) (same_number b)

names_added : (e : Entry) (b : ℕ) (buckets : ℕ → List Entry) (p : List ℕ) (c : ℕ) → Names p (buckets c) → Names p (added e b buckets c)
names_added e b buckets p c = in_added e b buckets (λ (d : ℕ) (es : List Entry). Names p (buckets d) → Names p es) (λ n. inr n) (λ d ne n. n) c

entry_added : (e : Entry) (b : ℕ) (buckets : ℕ → List Entry) (j : ℕ) (p : List ℕ) (c : ℕ) → HasEntry j p (buckets c) → HasEntry j p (added e b buckets c)
entry_added e b buckets j p c = in_added e b buckets (λ (d : ℕ) (es : List Entry). HasEntry j p (buckets d) → HasEntry j p es) (λ n. inr n) (λ d ne n. n) c

completes : (k : Shape) (old : List ℕ) (known : List ℕ → Option Item) (h : Holds k old known) (i : ℕ) (name : List ℕ) (it : Item) (p : List ℕ) (found : Item) → with_item known name it p ≡ Some found → Names p (added (entry i name) (bucket_of k name) h.buckets (bucket_of k p))
completes k old known h i name it p found is = elim (is_same p name) as (λ (t : Bool). is_same p name ≡ t → (if t then Some it else known p) ≡ Some found → Names p (added (entry i name) (bucket_of k name) h.buckets (bucket_of k p))) [
  | true ↦ λ same x. subst (λ (q : List ℕ). Names q (added (entry i name) (bucket_of k name) h.buckets (bucket_of k q))) (sym (same_is p name same)) (subst (Names name) (sym (added_here (entry i name) (bucket_of k name) h.buckets)) (inl refl))
  | false ↦ λ other x. names_added (entry i name) (bucket_of k name) h.buckets p (bucket_of k p) (h.complete p found x)
] refl is

owns_entry : (k : Shape) (old : List ℕ) (known : List ℕ → Option Item) (h : Holds k old known) (i : ℕ) (name : List ℕ) (j : ℕ) (p : List ℕ) → owns i name h.owner j ≡ Some p → HasEntry j p (added (entry i name) (bucket_of k name) h.buckets (bucket_of k p))
owns_entry k old known h i name j p is = elim (j == i) as (λ (t : Bool). (j == i) ≡ t → (if t then Some name else h.owner j) ≡ Some p → HasEntry j p (added (entry i name) (bucket_of k name) h.buckets (bucket_of k p))) [
  | true ↦ λ same x. let q : name ≡ p = cc in
      subst (λ (r : List ℕ). HasEntry j r (added (entry i name) (bucket_of k name) h.buckets (bucket_of k r))) q
      (subst (HasEntry j name) (sym (added_here (entry i name) (bucket_of k name) h.buckets)) (inl (sym (eqb-true j i same), refl)))
  | false ↦ λ other x. entry_added (entry i name) (bucket_of k name) h.buckets j p (bucket_of k p) (h.mine j p x)
] refl is

stays_whole : (i : ℕ) (name : List ℕ) (owner : ℕ → Option (List ℕ)) (free rest : List ℕ) → free ≡ i ∷ rest → (j : ℕ) → Among j free ⊎ (owner j ≡ None → ⊥) → owns i name owner j ≡ None → Among j rest
stays_whole i name owner free rest whole j among none = elim (j == i) as (λ (t : Bool). (j == i) ≡ t → (if t then Some name else owner j) ≡ None → Among j rest) [
  | true ↦ λ same x. absurd (some_none (Some name) name refl x)
  | false ↦ λ other x. elim among [ inl a ↦ among_later i j rest (eqb-false j i other) (subst (Among j) whole a) | inr n ↦ absurd (n x) ]
] refl none

elim_whole : (k : Shape) (old : List ℕ) (known : List ℕ → Option Item) (h : Holds k old known) (i : ℕ) (name : List ℕ) (rest : List ℕ) → h.free ≡ i ∷ rest → (j : ℕ) → j < k.items → owns i name h.owner j ≡ None → Among j rest
elim_whole k old known h i name rest whole j lt none = elim (h.owner j) as (λ o. h.owner j ≡ o → Among j rest) [
  | None ↦ λ e. stays_whole i name h.owner h.free rest whole j (inl (h.whole j lt e)) none
  | Some p ↦ λ e. stays_whole i name h.owner h.free rest whole j (inr (some_none (h.owner j) p e)) none
] refl

pub linked : (k : Shape) (old new : List ℕ) (known : List ℕ → Option Item) (i : ℕ) (name : List ℕ) (row : ItemRow) (it : Item) → Holds k old known → known name ≡ None → Linked k old new i name row
    → Says row it → row.len ≡ length name → IsLive k old row.leftmost → take (length name) (anchor_at k old row.leftmost) ≡ name → Holds k new (with_item known name it)
linked k old new known i name row it h unknown l says len live named =
    let f = first_free k old h.owner h.free i (subst (λ (n : ℕ). Spare k old n h.free) l.taken h.spare) h.unowned h.unlike in
    let b : ℕ = bucket_of k name in
    let o = λ (c : ℕ) (lt : c < k.heads). others k old known h.owner c i name (h.buckets c) f.unowned unknown (h.standing c lt) (h.owned c lt) in
    record {
      ranges = h.ranges;
      buckets = added (entry i name) b h.buckets;
      chained = in_added (entry i name) b h.buckets (λ (c : ℕ) (es : List Entry). c < k.heads → Chain k new (head_at k new c) es)
          (λ lt. (l.head, subst (λ (n : ℕ). Chain k new n (h.buckets b)) (sym (ap (λ (r : ItemRow). r.next) l.item)) (chain_stays k old new known i name row b (h.buckets b) _ l (o b lt) (h.standing b lt) (h.chained b lt))))
          (λ c ne lt. subst (λ (n : ℕ). Chain k new n (h.buckets c)) (sym (l.heads c ne lt)) (chain_stays k old new known i name row c (h.buckets c) _ l (o c lt) (h.standing c lt) (h.chained c lt)));
      standing = in_added (entry i name) b h.buckets (λ (c : ℕ) (es : List Entry). c < k.heads → AllByRecursion (Stands k new (with_item known name it) c) es)
          (λ lt. (
            record {
              in_range = f.in_range;
              here = refl;
              hash = l.hash;
              len = ap (λ (r : ItemRow). r.len) l.item ∙ len;
              live = subst (λ (r : ItemRow). IsLive k new r.leftmost) (sym l.item) (live_same k old new l.anchors _ live);
              named = ap (λ (r : ItemRow). take (length name) (anchor_at k new r.leftmost)) l.item ∙ ap (take (length name)) (l.anchors _ live).1 ∙ named;
              said = (it, with_here known name it, subst (λ (r : ItemRow). Says r it) (sym l.item) (record { anchor = says.anchor; first = says.first; last = says.last; children = says.children }));
            },
            stay k old new known i name row it b (h.buckets b) l (o b lt) (h.standing b lt),
          ))
          (λ c ne lt. stay k old new known i name row it c (h.buckets c) l (o c lt) (h.standing c lt));
      apart = in_added (entry i name) b h.buckets (λ (c : ℕ) (es : List Entry). c < k.heads → Apart es)
          (λ lt. (apart_new i name (h.buckets b) (o b lt), h.apart b lt))
          (λ c ne lt. h.apart c lt);
      complete = completes k old known h i name it;
      owner = owns i name h.owner;
      owned = in_added (entry i name) b h.buckets (λ (c : ℕ) (es : List Entry). c < k.heads → AllByRecursion (λ (e : Entry). owns i name h.owner e.at ≡ Some e.name) es)
          (λ lt. (owns_here i name h.owner, owned_stays i name h.owner (h.buckets b) (o b lt) (h.owned b lt)))
          (λ c ne lt. owned_stays i name h.owner (h.buckets c) (o c lt) (h.owned c lt));
      mine = owns_entry k old known h i name;
      free = f.rest;
      spare = subst (λ (n : ℕ). Spare k new n f.rest) (sym l.free) (spare_stays k old new i name row h.owner f.rest _ l f.others f.rest_unowned f.spare);
      unowned = unowned_stays k i name h.owner f.rest f.others f.rest_unowned;
      unlike = f.unlike;
      whole = λ j lt none. elim_whole k old known h i name f.rest f.whole j lt none;
      counted = let n = ap length f.whole in omega (arith, h.counted, l.used, n);
    }

pub linked-owner : (k : Shape) (old new : List ℕ) (known : List ℕ → Option Item) (i : ℕ) (name : List ℕ) (row : ItemRow) (it : Item) (h : Holds k old known) (unknown : known name ≡ None) (l : Linked k old new i name row) (says : Says row it) (len : row.len ≡ length name) (live : IsLive k old row.leftmost) (named : take (length name) (anchor_at k old row.leftmost) ≡ name) (j : ℕ) → (linked k old new known i name row it h unknown l says len live named).owner j ≡ (if j == i then Some name else h.owner j)
unfolding linked
linked-owner k old new known i name row it h unknown l says len live named j = refl

pub linked_root : (k : Shape) (old new : List ℕ) (known : List ℕ → Option Item) (i : ℕ) (name : List ℕ) (row : ItemRow) (it : Item) (h : Holds k old known) (unknown : known name ≡ None) (l : Linked k old new i name row) (says : Says row it) (len : row.len ≡ length name) (live : IsLive k old row.leftmost) (named : take (length name) (anchor_at k old row.leftmost) ≡ name) (j : ℕ) (p : List ℕ) → h.owner j ≡ Some p → (linked k old new known i name row it h unknown l says len live named).owner j ≡ Some p
linked_root k old new known i name row it h unknown l says len live named j p own =
    let f = first_free k old h.owner h.free i (subst (λ (n : ℕ). Spare k old n h.free) l.taken h.spare) h.unowned h.unlike in
    let ne : j ≢ i = λ e. some_none (h.owner j) p own (ap h.owner e ∙ f.unowned) in
    linked-owner k old new known i name row it h unknown l says len live named j ∙ ap (λ (t : Bool). if t then Some name else h.owner j) (ne_eqb j i ne) ∙ own

first_in_range : (k : Shape) (ws : List ℕ) (owner : ℕ → Option (List ℕ)) (free : List ℕ) (link : ℕ) → Spare k ws link free → AllByRecursion (λ (j : ℕ). (j < k.items) × (owner j ≡ None)) free → 0 < link → (link ≡ link - 1 + 1) × (link - 1 < k.items)
first_in_range k ws owner [] link s o some = absurd (omega (arith, s))
first_in_range k ws owner (j ∷ js) link s o some = (omega arith, omega (arith, s.0, o.0.0))

-- the first free item is one
pub free_place : (k : Shape) (ws : List ℕ) (known : List ℕ → Option Item) → Holds k ws known → 0 < free_of ws → (free_of ws ≡ free_of ws - 1 + 1) × (free_of ws - 1 < k.items)
free_place k ws known h some = first_in_range k ws h.owner h.free (free_of ws) h.spare h.unowned some

some_first : (k : Shape) (ws : List ℕ) (free : List ℕ) (link : ℕ) → Spare k ws link free → 0 < length free → 0 < link
some_first k ws [] link s l = absurd (omega (arith, l))
some_first k ws (j ∷ js) link s l = omega (arith, s.0)

-- where not all items are used, one is free
pub free_some : (k : Shape) (ws : List ℕ) (known : List ℕ → Option Item) → Holds k ws known → used_of ws < k.items → 0 < free_of ws
free_some k ws known h l = some_first k ws h.free (free_of ws) h.spare (omega (arith, h.counted, l))
