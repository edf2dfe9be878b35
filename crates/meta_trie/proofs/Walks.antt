-- A walk along a bucket.
use Rattle.std.proofs.Common.{◌≡◌, ◌≢◌, ℕ, ◌+◌, ◌-◌, ◌<◌, ◌≤◌, inl, inr, List, [], ◌∷◌, ◌++◌, length, take, Option, Some, None, sym, ap, ◌∙◌, refl, subst, arith, eqb-true}
use Rattle.std.specs.List.{AllByRecursion, IsDistinct, list_any}
use Rattle.std.specs.Prelude.{map, eqb, ◌||◌, Bool, true, false}
use mathlib.Core.Bool.{false≢true}
use Rattle.std.proofs.lemmas.Bool.{ne_eqb}
use Rattle.std.proofs.lemmas.Map.Steps.{length-le_from_distinct_below}
use Rattle.std.proofs.lemmas.List.{length-map}
use Rattle.key_bytes.specs.Fnv.{prefix_hash}
use Rattle.anchor_rules.specs.Anchors.{Anchors}
use Rattle.anchor_rules.specs.Items.{Item, item, is_prefix}
use Rattle.anchor_rules.proofs.ItemParts.{item_is}
use Rattle.row_words.specs.declared.shape.Shape.{Shape}
use Rattle.row_words.specs.declared.rows.ItemRow.{ItemRow}
use Rattle.row_words.specs.Decode.{head_at, item_at, anchor_at, IsUsed, IsOf}
use Rattle.meta_trie.specs.declared.finds.Found.{Found}
use Rattle.meta_trie.specs.Trie.{Says, Entry, bucket_of, Chain, Stands, Names, Apart, Holds, Looked, last_link, IsFound}
use Rattle.meta_trie.specs.Stands.{StandsFor, AllApart, MostInBucket}
use Rattle.meta_trie.specs.Places.{StandsAt}
use Rattle.meta_trie.proofs.Lists.{all_at, front_more, last_link-push}

-- the item at an entry's place is that of its prefix, and of no other
of_entry : (k : Shape) (ws : List ℕ) (known : List ℕ → Option Item) (b : ℕ) (e : Entry) → Stands k ws known b e → (prefix : List ℕ) → e.name ≡ prefix → IsOf k ws e.at prefix (prefix_hash k.salt prefix)
of_entry k ws known b e s prefix same = subst (λ (name : List ℕ). IsOf k ws e.at name (prefix_hash k.salt name)) same (record { same_hash = s.hash; same_len = s.len; same_bytes = s.named })

entry_of : (k : Shape) (ws : List ℕ) (known : List ℕ → Option Item) (b : ℕ) (e : Entry) → Stands k ws known b e → (prefix : List ℕ) (hash : ℕ) → IsOf k ws e.at prefix hash → e.name ≡ prefix
entry_of k ws known b e s prefix hash of = sym s.named ∙ ap (λ (n : ℕ). take n (anchor_at k ws (item_at k ws e.at).leftmost)) (sym s.len ∙ of.same_len) ∙ of.same_bytes

-- an entry's item, by its place and its prefix
stands_at : (k : Shape) (ws : List ℕ) (known : List ℕ → Option Item) (b : ℕ) (e : Entry) → Stands k ws known b e → (prefix : List ℕ) (at : ℕ) → e.at ≡ at → e.name ≡ prefix → StandsAt k ws known prefix at
stands_at k ws known b e s prefix at place name = subst (λ (z : ℕ × List ℕ). StandsAt k ws known z.1 z.0) (λ i. (place i, name i)) s.said

-- a walk along a bucket that looks for a prefix: what lies behind it and what lies ahead
pub record Walk (k : Shape) (ws : List ℕ) (known : List ℕ → Option Item) (bucket : List Entry) (prefix : List ℕ) (link before steps most : ℕ) : Type 0 where
  pub front : List Entry
  pub rest : List Entry
  pub whole : bucket ≡ front ++ rest
  pub behind : before ≡ last_link front
  pub chain : Chain k ws link rest
  pub standing : AllByRecursion (Stands k ws known (bucket_of k prefix)) rest
  pub ahead : (it : Item) → known prefix ≡ Some it → Names prefix rest
  pub counted : steps + length rest ≤ most

pub bucket_below : (k : Shape) (ws : List ℕ) (known : List ℕ → Option Item) → Holds k ws known → (prefix : List ℕ) → bucket_of k prefix < k.heads
bucket_below k ws known h prefix = let some = h.ranges.heads.0 in omega arith

pub walk_start : (k : Shape) (ws : List ℕ) (known : List ℕ → Option Item) (h : Holds k ws known) (prefix : List ℕ) (steps : ℕ) → Walk k ws known (h.buckets (bucket_of k prefix)) prefix (head_at k ws (bucket_of k prefix)) 0 steps (steps + length (h.buckets (bucket_of k prefix)))
walk_start k ws known h prefix steps =
    let l = bucket_below k ws known h prefix in
    record {
      front = [];
      rest = h.buckets (bucket_of k prefix);
      whole = refl;
      behind = refl;
      chain = h.chained (bucket_of k prefix) l;
      standing = h.standing (bucket_of k prefix) l;
      ahead = λ it is. h.complete prefix it is;
      counted = omega arith;
    }

-- what is at a link that isn't 0
record First (k : Shape) (ws : List ℕ) (known : List ℕ → Option Item) (prefix : List ℕ) (link : ℕ) (rest : List Entry) : Type 0 where
  pub e : Entry
  pub es : List Entry
  pub whole : rest ≡ e ∷ es
  pub at : e.at ≡ link - 1
  pub link_is : link ≡ e.at + 1
  pub chain : Chain k ws (item_at k ws (link - 1)).next es
  pub stands : Stands k ws known (bucket_of k prefix) e
  pub standing : AllByRecursion (Stands k ws known (bucket_of k prefix)) es

first : (k : Shape) (ws : List ℕ) (known : List ℕ → Option Item) (prefix : List ℕ) (link : ℕ) (rest : List Entry) → Chain k ws link rest → AllByRecursion (Stands k ws known (bucket_of k prefix)) rest → link ≢ 0 → First k ws known prefix link rest
first k ws known prefix link [] chain standing some = absurd (some chain)
first k ws known prefix link (e ∷ es) chain standing some =
    let at : e.at ≡ link - 1 = omega (arith, chain.0) in
    record { e = e; es = es; whole = refl; at = at; link_is = chain.0; chain = subst (λ (i : ℕ). Chain k ws (item_at k ws i).next es) at chain.1; stands = standing.0; standing = standing.1 }

names_later : (name : List ℕ) (e : Entry) (es : List Entry) → Names name (e ∷ es) → (e.name ≡ name → ⊥) → Names name es
names_later name e es n apart = elim n [ inl same ↦ absurd (apart same) | inr later ↦ later ]

names_nothing : (k : Shape) (ws : List ℕ) (rest : List Entry) (name : List ℕ) → Chain k ws 0 rest → Names name rest → ⊥
names_nothing k ws [] name chain names = names
names_nothing k ws (e ∷ es) name chain names = absurd (omega (arith, chain.0))

module _ (k : Shape) (ws : List ℕ) (known : List ℕ → Option Item) (bucket : List Entry) (prefix : List ℕ) (link before steps most : ℕ) (w : Walk k ws known bucket prefix link before steps most) where
  pub walk_used : link ≢ 0 → IsUsed k ws (link - 1)
  walk_used some =
      let f = first k ws known prefix link w.rest w.chain w.standing some in
      subst (λ (i : ℕ). IsUsed k ws i) f.at (f.stands.in_range, f.stands.live)

  pub walk_counts : link ≢ 0 → steps + 1 ≤ most
  walk_counts some =
      let f = first k ws known prefix link w.rest w.chain w.standing some in
      let n : length w.rest ≡ length f.es + 1 = ap length f.whole ∙ omega arith in
      omega (arith, w.counted)

  pub walk_more : link ≢ 0 → ¬ IsOf k ws (link - 1) prefix (prefix_hash k.salt prefix) → Walk k ws known bucket prefix (item_at k ws (link - 1)).next link (steps + 1) most
  walk_more some other =
      let f = first k ws known prefix link w.rest w.chain w.standing some in
      let n : length w.rest ≡ length f.es + 1 = ap length f.whole ∙ omega arith in
      let apart = λ (same : f.e.name ≡ prefix). other (subst (λ (i : ℕ). IsOf k ws i prefix (prefix_hash k.salt prefix)) f.at (of_entry k ws known _ f.e f.stands prefix same)) in
      record {
        front = w.front ++ f.e ∷ [];
        rest = f.es;
        whole = w.whole ∙ ap (λ (es : List Entry). w.front ++ es) f.whole ∙ front_more w.front f.e f.es;
        behind = f.link_is ∙ sym (last_link-push w.front f.e);
        chain = f.chain;
        standing = f.standing;
        ahead = λ it is. names_later prefix f.e f.es (subst (Names prefix) f.whole (w.ahead it is)) apart;
        counted = omega (arith, w.counted);
      }

  pub walk_found : (hash : ℕ) (row : ItemRow) → link ≢ 0 → IsOf k ws (link - 1) prefix hash → row ≡ item_at k ws (link - 1) → IsFound k ws bucket prefix (record { at = link - 1; before = before; item = row })
  walk_found hash row some of is =
      let f = first k ws known prefix link w.rest w.chain w.standing some in
      let same = entry_of k ws known _ f.e f.stands prefix hash (subst (λ (i : ℕ). IsOf k ws i prefix hash) (sym f.at) of) in
      let e : f.e ≡ record { at = link - 1; name = prefix } = λ i. record { at = f.at i; name = same i } in
      record {
        front = w.front;
        back = f.es;
        whole = w.whole ∙ ap (λ (es : List Entry). w.front ++ es) f.whole ∙ ap (λ (e : Entry). w.front ++ e ∷ f.es) e;
        before = w.behind;
        row = is;
      }

  pub walk_cost : steps ≤ most
  walk_cost = omega (arith, w.counted)

pub walk_end : (k : Shape) (ws : List ℕ) (known : List ℕ → Option Item) (bucket : List Entry) (prefix : List ℕ) (before steps most : ℕ) → Walk k ws known bucket prefix 0 before steps most → known prefix ≡ None
walk_end k ws known bucket prefix before steps most w = elim (known prefix) as (λ found. known prefix ≡ found → known prefix ≡ None) [
  | None ↦ λ e. e
  | Some it ↦ λ e. absurd (names_nothing k ws w.rest prefix w.chain (w.ahead it e))
] refl

all_apart : (e : Entry) (es : List Entry) → AllByRecursion (λ (f : Entry). (e.at ≡ f.at → ⊥) × (e.name ≡ f.name → ⊥)) es → AllByRecursion (λ (j : ℕ). eqb e.at j ≡ false) (map (λ (f : Entry). f.at) es)
all_apart e [] a = tt
all_apart e (f ∷ es) a = (ne_eqb e.at f.at a.0.0, all_apart e es a.1)

places_distinct : (es : List Entry) → Apart es → IsDistinct eqb (map (λ (f : Entry). f.at) es)
unfolding IsDistinct
places_distinct [] a = tt
places_distinct (e ∷ es) a = (all_apart e es a.0, places_distinct es a.1)

place_below : (k : Shape) (ws : List ℕ) (known : List ℕ → Option Item) (b : ℕ) (es : List Entry) → AllByRecursion (Stands k ws known b) es → (q : ℕ) → list_any (eqb q) (map (λ (f : Entry). f.at) es) ≡ true → q < k.items
place_below k ws known b [] s q any = absurd (false≢true any)
place_below k ws known b (e ∷ es) s q any = elim (eqb q e.at) as (λ (t : Bool). eqb q e.at ≡ t → t || list_any (eqb q) (map (λ (f : Entry). f.at) es) ≡ true → q < k.items) [
  | true ↦ λ is more. let same : q ≡ e.at = eqb-true q e.at is in omega (arith, s.0.in_range)
  | false ↦ λ is more. place_below k ws known b es s.1 q more
] refl any

-- no bucket has more entries than there are items
pub bucket_fits : (k : Shape) (ws : List ℕ) (known : List ℕ → Option Item) (h : Holds k ws known) (prefix : List ℕ) → length (h.buckets (bucket_of k prefix)) ≤ k.items
bucket_fits k ws known h prefix =
    let b : ℕ = bucket_of k prefix in
    let l = bucket_below k ws known h prefix in
    let n = length-le_from_distinct_below (map (λ (f : Entry). f.at) (h.buckets b)) k.items (places_distinct (h.buckets b) (h.apart b l)) (place_below k ws known b (h.buckets b) (h.standing b l)) in
    omega (arith, n, length-map (h.buckets b) (λ (f : Entry). f.at))

-- a step more is below the number of items
pub walk_room : (k : Shape) (ws : List ℕ) (known : List ℕ → Option Item) (h : Holds k ws known) (prefix : List ℕ) (link before steps from : ℕ) → Walk k ws known (h.buckets (bucket_of k prefix)) prefix link before steps (from + length (h.buckets (bucket_of k prefix))) → link ≢ 0 → steps + 1 ≤ from + k.items
walk_room k ws known h prefix link before steps from w some =
    let n = walk_counts k ws known _ prefix link before steps _ w some in
    omega (arith, n, bucket_fits k ws known h prefix)

names_apart : (es : List Entry) → Apart es → AllApart (map (λ (f : Entry). f.name) es)
names_apart [] a = tt
names_apart (e ∷ es) a = (go es a.0, names_apart es a.1)
  where
    go : (fs : List Entry) → AllByRecursion (λ (f : Entry). (e.at ≡ f.at → ⊥) × (e.name ≡ f.name → ⊥)) fs → AllByRecursion (λ (q : List ℕ). e.name ≡ q → ⊥) (map (λ (f : Entry). f.name) fs)
    go [] all = tt
    go (f ∷ fs) all = (all.0.1, go fs all.1)

names_prefixes : (k : Shape) (ws : List ℕ) (A : Anchors) (b : ℕ) (es : List Entry) → AllByRecursion (Stands k ws (item A) b) es → AllByRecursion (λ (p : List ℕ). (bucket_of k p ≡ b) × (is_prefix A p ≡ true)) (map (λ (f : Entry). f.name) es)
names_prefixes k ws A b [] s = tt
names_prefixes k ws A b (e ∷ es) s = ((s.0.here, (item_is A e.name s.0.said.0 s.0.said.1).prefix), names_prefixes k ws A b es s.1)

-- no bucket has more entries than prefixes share it
pub bucket_short : (k : Shape) (ws : List ℕ) (A : Anchors) (s : StandsFor k ws A) (prefix : List ℕ) (c : ℕ) → MostInBucket k A c → length (s.trie.buckets (bucket_of k prefix)) ≤ c
bucket_short k ws A s prefix c most =
    let b : ℕ = bucket_of k prefix in
    let es : List Entry = s.trie.buckets b in
    let l = bucket_below k ws (item A) s.trie prefix in
    let n = most b (map (λ (f : Entry). f.name) es) (names_apart es (s.trie.apart b l)) (names_prefixes k ws A b es (s.trie.standing b l)) in
    omega (arith, n, length-map es (λ (f : Entry). f.name))

-- what was found is what is known of the prefix
pub found_looked : (k : Shape) (ws : List ℕ) (known : List ℕ → Option Item) (h : Holds k ws known) (prefix : List ℕ) (found : Found) → IsFound k ws (h.buckets (bucket_of k prefix)) prefix found → Looked known prefix (Some found.item)
found_looked k ws known h prefix found f =
    let l = bucket_below k ws known h prefix in
    let b : ℕ = bucket_of k prefix in
    let s = all_at (Stands k ws known b) f.front _ f.back (subst (AllByRecursion (Stands k ws known b)) f.whole (h.standing b l)) in
    (s.said.0, s.said.1, subst (λ (r : ItemRow). Says r s.said.0) (sym f.row) s.said.2, ap (λ (r : ItemRow). r.len) f.row ∙ s.len)

-- a prefix of which something is known is ahead, so there is a link
pub walk_goes : (k : Shape) (ws : List ℕ) (known : List ℕ → Option Item) (bucket : List Entry) (prefix : List ℕ) (link before steps most : ℕ) → Walk k ws known bucket prefix link before steps most → (it : Item) → known prefix ≡ Some it → link ≢ 0
walk_goes k ws known bucket prefix link before steps most w it is = λ none. names_nothing k ws w.rest prefix (subst (λ (n : ℕ). Chain k ws n w.rest) none w.chain) (w.ahead it is)

names_only : (k : Shape) (ws : List ℕ) (name : List ℕ) (e : Entry) (es : List Entry) → Chain k ws 0 es → Names name (e ∷ es) → e.name ≡ name
names_only k ws name e es chain names = elim names [ inl same ↦ same | inr later ↦ absurd (names_nothing k ws es name chain later) ]

-- and its item is the last one where no other is ahead
pub walk_last : (k : Shape) (ws : List ℕ) (known : List ℕ → Option Item) (bucket : List Entry) (prefix : List ℕ) (link before steps most : ℕ) → Walk k ws known bucket prefix link before steps most → link ≢ 0 → (item_at k ws (link - 1)).next ≡ 0 → (it : Item) → known prefix ≡ Some it → StandsAt k ws known prefix (link - 1)
walk_last k ws known bucket prefix link before steps most w some last it is =
    let f = first k ws known prefix link w.rest w.chain w.standing some in
    let name = names_only k ws prefix f.e f.es (subst (λ (n : ℕ). Chain k ws n f.es) last f.chain) (subst (Names prefix) f.whole (w.ahead it is)) in
    stands_at k ws known _ f.e f.stands prefix (link - 1) f.at name

-- the item at a link is that of the prefix
pub walk_here : (k : Shape) (ws : List ℕ) (known : List ℕ → Option Item) (bucket : List Entry) (prefix : List ℕ) (link before steps most : ℕ) → Walk k ws known bucket prefix link before steps most → link ≢ 0 → (hash : ℕ) → IsOf k ws (link - 1) prefix hash → StandsAt k ws known prefix (link - 1)
walk_here k ws known bucket prefix link before steps most w some hash of =
    let f = first k ws known prefix link w.rest w.chain w.standing some in
    let name = entry_of k ws known _ f.e f.stands prefix hash (subst (λ (i : ℕ). IsOf k ws i prefix hash) (sym f.at) of) in
    stands_at k ws known _ f.e f.stands prefix (link - 1) f.at name
