-- The map of items while the prefixes of an anchor are taken out, from the shortest on.
use Rattle.std.proofs.Common.{◌≡◌, ◌≢◌, ℕ, ◌+◌, ◌*◌, ◌/◌, ◌%◌, ◌^◌, ◌<◌, ◌≤◌, ◌⊎◌, inl, inr, List, [], ◌∷◌, ◌++◌, length, length-append, take, get_or, eq-eqb, get_or-set_other, get_or-set_same, Option, Some, None, sym, ap, ◌∙◌, refl, arith}
use Rattle.std.specs.Prelude.{Bool, true, false, not, ◌==◌, ◌&&◌, ◌||◌, nat_lt, nat_le, max, if◌then◌else◌}
use mathlib.Core.Bool.{false≢true}
use Rattle.std.proofs.lemmas.Bool.{le-leb, lt-leb, ne_eqb, cases_order}
use Rattle.std.proofs.lemmas.Bool.Decides.{nat_tests}
use Rattle.std.proofs.lemmas.List.{length-take}
use Rattle.std.proofs.Math.ListN.{set}
use Rattle.std.proofs.lemmas.Nat.Bits.{bit_at_clear_same, bit_at_clear_other}
use Rattle.std.specs.Int.{bit_at, bit_not, w64}
use Rattle.std.specs.Int.Bits.{bit_and}
use Rattle.key_bytes.specs.Order.{is_same}
use Rattle.key_bytes.proofs.Orders.{same_is, same_itself}
use Rattle.anchor_rules.specs.Anchors.{Anchors, with_merge}
use Rattle.anchor_rules.specs.Items.{Item, begins, begins_end, is_prefix, item, leaf_after, shared}
use Rattle.anchor_rules.proofs.Prefixes.{begins_take, begins_is_take}
use Rattle.anchor_rules.proofs.ItemParts.{any_here, some_item, item_is}
use Rattle.anchor_rules.proofs.ItemChanges.{Place, place_of, shrunk, neighbours, merge_other, merge_known, merge_gone}
use Rattle.row_words.specs.declared.rows.ItemRow.{ItemRow}
use Rattle.meta_trie.specs.Trie.{Says, bit_of}
use Rattle.meta_trie.specs.Words.{without_item}
use Rattle.meta_trie.specs.Grows.{mixed}
use Rattle.meta_trie.specs.Shrinks.{Shrinks, shrunk_by}
use Rattle.meta_trie.proofs.Growing.{mixed_later, mixed_other, mixed_done, begun, begun_short, take_is, take_child, take_no_child}

-- one prefix more was taken out
pub mixed_gone : (A B : Anchors) (a : List ℕ) (n : ℕ) → n ≤ length a → item B (take n a) ≡ None → (p : List ℕ) → without_item (mixed A B a n) (take n a) p ≡ mixed A B a (n + 1) p
mixed_gone A B a n le none p =
    let many : length (take n a) ≡ n = length-take n a ∙ omega (arith, le) in
    elim (is_same p (take n a)) as (λ (t : Bool). is_same p (take n a) ≡ t → (if t then None else mixed A B a n p) ≡ mixed A B a (n + 1) p) [
      | true ↦ λ same.
          let e : p ≡ take n a = same_is p (take n a) same in
          sym none ∙ sym (mixed_done A B a (n + 1) (take n a) (begins_take n a) (omega (arith, many))) ∙ ap (mixed A B a (n + 1)) (sym e)
      | false ↦ λ other.
          let ne : p ≢ take n a = λ e. false≢true (sym other ∙ ap (λ (q : List ℕ). is_same q (take n a)) e ∙ same_itself (take n a)) in
          rest ne (begins p a) refl (cases_order (length p) n)
    ] refl
  where
    rest : p ≢ take n a → (b : Bool) → begins p a ≡ b → ((length p ≡ n) ⊎ ((length p < n) ⊎ (n < length p))) → mixed A B a n p ≡ mixed A B a (n + 1) p
    rest ne false b o = mixed_other A B a n p b ∙ sym (mixed_other A B a (n + 1) p b)
    rest ne true b o = elim o [
      | inl same ↦ absurd (ne (begun p a b ∙ ap (λ (m : ℕ). take m a) same))
      | inr r ↦ elim r [
        | inl below ↦ mixed_done A B a n p b below ∙ sym (mixed_done A B a (n + 1) p b (omega (arith, below)))
        | inr past ↦ mixed_later A B a n p (omega (arith, past)) ∙ sym (mixed_later A B a (n + 1) p (omega (arith, past)))
      ]
    ]

and_true : (x y : Bool) → x ≡ true → (x && y) ≡ y
and_true true y e = refl
and_true false y e = absurd (false≢true e)

and_kept : (x y : Bool) → x ≡ (x && (y || true))
and_kept true true = refl
and_kept true false = refl
and_kept false true = refl
and_kept false false = refl

or_not : (y : Bool) → (y || false) ≡ y
or_not true = refl
or_not false = refl

below_more : (n s : ℕ) → nat_lt n s ≡ nat_le (n + 1) s
below_more n s = grind (arith, nat_tests)

module _ (A : Anchors) (leaf : ℕ) (lo a : List ℕ) (hi : Option (List ℕ)) (left after front back : ℕ) (s : Shrinks A leaf lo a hi left after front back) where
  pub merged_end : (n : ℕ) → length a < n → (p : List ℕ) → mixed A (with_merge A leaf) a n p ≡ item (with_merge A leaf) p
  merged_end n l p = elim (begins p a) as (λ (t : Bool). begins p a ≡ t → mixed A (with_merge A leaf) a n p ≡ item (with_merge A leaf) p) [
    | true ↦ λ b. let short = begun_short p a b in mixed_done A (with_merge A leaf) a n p b (omega (arith, short, l))
    | false ↦ λ b. mixed_other A (with_merge A leaf) a n p b ∙ sym (merge_other A left leaf lo a hi s.are s.at s.gone p b)
  ] refl

  -- each prefix of a has an item at first
  pub prefix_here : (p : List ℕ) → begins p a ≡ true → is_prefix A p ≡ true
  prefix_here p b =
      let h : Place A leaf a hi = place_of A leaf a hi s.gone in
      ap (λ (l : Anchors). is_prefix l p) h.whole ∙ any_here (λ (q : List ℕ × ℕ). begins p q.0) h.front (a, leaf) h.back b

  pub known_here : (n : ℕ) → (it : Item) × (item A (take n a) ≡ Some it)
  known_here n = some_item A (take n a) (prefix_here (take n a) (begins_take n a))

  -- one that no neighbour has is gone
  pub gone_above : (n : ℕ) → n ≤ length a → shared lo a hi < n → item (with_merge A leaf) (take n a) ≡ None
  gone_above n le l = merge_gone A left leaf lo a hi s.are s.at s.gone (take n a) (begins_take n a) (neighbours lo a hi n le ∙ lt-leb n (shared lo a hi) l)

  -- and one that a neighbour has is kept
  pub kept_item : (n : ℕ) (it : Item) → n ≤ length a → n ≤ shared lo a hi → item A (take n a) ≡ Some it → item (with_merge A leaf) (take n a) ≡ Some (shrunk (take n a) lo hi a left (leaf_after A leaf) it)
  kept_item n it le l known = merge_known A left leaf lo a hi s.are s.at s.gone (take n a) it (begins_take n a) (neighbours lo a hi n le ∙ le-leb n (shared lo a hi) l) known

  -- a's byte behind the prefix goes on from it
  child_here : (n : ℕ) (it : Item) (c : ℕ) → item A (take n a) ≡ Some it → begins (take n a ++ c ∷ []) a ≡ true → it.child c ≡ true
  child_here n it c known b = (item_is A (take n a) it known).children c ∙ prefix_here (take n a ++ c ∷ []) b

  -- by lengths the neighbours have this prefix too
  child_kept : (n c : ℕ) → n ≤ length a → begins (take n a ++ c ∷ []) a ≡ true → nat_lt n (shared lo a hi) ≡ (begins (take n a ++ c ∷ []) lo || begins_end (take n a ++ c ∷ []) hi)
  child_kept n c le b =
      let p : List ℕ = take n a ++ c ∷ [] in
      let many : length (take n a ++ c ∷ []) ≡ n + 1 = length-append (take n a) (c ∷ []) ∙ omega (arith, length-take n a, le) in
      let short = begun_short p a b in
      let is : take (n + 1) a ≡ p = ap (λ (m : ℕ). take m a) (sym many) ∙ begins_is_take p a b in
      below_more n (shared lo a hi) ∙ sym (neighbours lo a hi (n + 1) (omega (arith, many, short))) ∙ ap (λ (q : List ℕ). begins q lo || begins_end q hi) is

  pub says_kept : (row : ItemRow) (n : ℕ) (it : Item) → n ≤ length a → item A (take n a) ≡ Some it → Says row (shrunk_by (take n a) a left after (begins (take n a) lo) (begins_end (take n a) hi) (nat_lt n (shared lo a hi)) it) → Says row (shrunk (take n a) lo hi a left (leaf_after A leaf) it)
  says_kept row n it le known says = record {
    anchor = says.anchor;
    first = says.first ∙ ap (λ (l : ℕ). if begins (take n a) lo then it.leftmost else l) s.after_is;
    last = says.last;
    children = λ c l. says.children c l ∙ elim (begins (take n a ++ c ∷ []) a) as (λ (t : Bool). begins (take n a ++ c ∷ []) a ≡ t → (it.child c && (nat_lt n (shared lo a hi) || not t)) ≡ (if t then begins (take n a ++ c ∷ []) lo || begins_end (take n a ++ c ∷ []) hi else it.child c)) [
      | true ↦ λ b. and_true (it.child c) (nat_lt n (shared lo a hi) || false) (child_here n it c known b) ∙ or_not (nat_lt n (shared lo a hi)) ∙ child_kept n c le b
      | false ↦ λ b. sym (and_kept (it.child c) (nat_lt n (shared lo a hi)))
    ] refl;
  }

-- the row of a prefix says what is known of it without the anchor
pub says_shrunk : (item row : ItemRow) (a : List ℕ) (n left after : ℕ) (first last child : Bool) (it : Item) → n ≤ length a → Says item it
    → row.is_anchor ≡ (item.is_anchor && not (n == length a)) → row.leftmost ≡ (if first then item.leftmost else after) → row.rightmost ≡ (if last then item.rightmost else left)
    → ((c : ℕ) → c < 256 → bit_of row.bits c ≡ (bit_of item.bits c && (child || not (begins (take n a ++ c ∷ []) a))))
    → Says row (shrunk_by (take n a) a left after first last child it)
says_shrunk item row a n left after first last child it le says ea ef el eb = record {
  anchor = ea ∙ ap (λ (t : Bool). t && not (n == length a)) says.anchor ∙ ap (λ (t : Bool). it.is_anchor && not t) (sym (take_is n a le));
  first = ef ∙ ap (λ (l : ℕ). if first then l else after) says.first;
  last = el ∙ ap (λ (l : ℕ). if last then l else left) says.last;
  children = λ c l. eb c l ∙ ap (λ (t : Bool). t && (child || not (begins (take n a ++ c ∷ []) a))) (says.children c l);
}

-- by the counts, the neighbours have one byte more too
pub child_counts : (n front back f b m s : ℕ) → m ≡ max front back → front ≡ f → back ≡ b → max f b ≡ s + 1 → nat_lt (n + 1) m ≡ nat_lt n s
child_counts n front back f b m s e ef eb count = ap (nat_lt (n + 1)) (e ∙ (λ i. max (ef i) (eb i)) ∙ count) ∙ less n s
  where
    less : (n s : ℕ) → nat_lt (n + 1) (s + 1) ≡ nat_lt n s
    less n s = grind (arith, nat_tests)

-- one bit was cleared
pub bits_cleared : (bits : List ℕ) (c e : ℕ) → length bits ≡ 4 → c < 256 → e < 256 → bit_of (set bits (c / 64) (bit_and (get_or bits (c / 64) 0) (bit_not w64 (1 * 2 ^ (c % 64) % 2 ^ 64)))) e ≡ (bit_of bits e && not (e == c))
bits_cleared bits c e many cl el = elim (cases_order (e / 64) (c / 64)) [
  | inl same ↦
      let room : c / 64 < length bits = omega (arith, many, cl) in
      let v : ℕ = bit_and (get_or bits (c / 64) 0) (bit_not w64 (1 * 2 ^ (c % 64) % 2 ^ 64)) in
      let word : get_or (set bits (c / 64) v) (e / 64) 0 ≡ v = ap (λ (x : ℕ). get_or (set bits (c / 64) v) x 0) same ∙ get_or-set_same bits (c / 64) v 0 room in
      ap (λ (w : ℕ). w / 2 ^ (e % 64) % 2 == 1) word ∙ elim (cases_order (e % 64) (c % 64)) [
        | inl bit ↦
            let e_is : e ≡ c = omega (arith, same, bit) in
            ap (λ (i : ℕ). bit_at v i == 1) bit
            ∙ ap (λ (x : ℕ). x == 1) (bit_at_clear_same w64 (get_or bits (c / 64) 0) (c % 64) (omega arith))
            ∙ sym (and_false (bit_of bits e)) ∙ ap (λ (t : Bool). bit_of bits e && not t) (sym (eq-eqb e c e_is))
        | inr r ↦
            let ne : e % 64 ≢ c % 64 = elim r [ inl below ↦ λ q. omega (arith, q, below) | inr above ↦ λ q. omega (arith, q, above) ] in
            let far : e ≢ c = λ q. ne (ap (λ (x : ℕ). x % 64) q) in
            ap (λ (x : ℕ). x == 1) (bit_at_clear_other w64 (get_or bits (c / 64) 0) (c % 64) (omega arith) (e % 64) (omega arith) ne)
            ∙ ap (λ (x : ℕ). bit_at (get_or bits x 0) (e % 64) == 1) (sym same)
            ∙ sym (and_kept_true (bit_of bits e)) ∙ ap (λ (t : Bool). bit_of bits e && not t) (sym (ne_eqb e c far))
      ]
  | inr r ↦
      let ne : e / 64 ≢ c / 64 = elim r [ inl below ↦ λ q. omega (arith, q, below) | inr above ↦ λ q. omega (arith, q, above) ] in
      let far : e ≢ c = λ q. ne (ap (λ (x : ℕ). x / 64) q) in
      ap (λ (w : ℕ). w / 2 ^ (e % 64) % 2 == 1) (get_or-set_other bits (c / 64) (e / 64) _ 0 ne)
      ∙ sym (and_kept_true (bit_of bits e)) ∙ ap (λ (t : Bool). bit_of bits e && not t) (sym (ne_eqb e c far))
]
  where
    and_false : (x : Bool) → (x && false) ≡ false
    and_false true = refl
    and_false false = refl

    and_kept_true : (x : Bool) → (x && true) ≡ x
    and_kept_true true = refl
    and_kept_true false = refl

-- the child of a prefix, or none
pub child_cleared : (a : List ℕ) (n c : ℕ) (t keeps : Bool) → keeps ≡ false → n < length a → (t && not (c == get_or a n 0)) ≡ (t && (keeps || not (begins (take n a ++ c ∷ []) a)))
child_cleared a n c t keeps e l = ap (λ (b : Bool). t && not b) (sym (take_child n a c l)) ∙ ap (λ (b : Bool). t && (b || not (begins (take n a ++ c ∷ []) a))) (sym e)

pub child_stays : (t keeps y : Bool) → keeps ≡ true → t ≡ (t && (keeps || y))
child_stays true true y e = refl
child_stays false true y e = refl
child_stays t false y e = absurd (false≢true e)

pub no_child : (a : List ℕ) (n c : ℕ) (t keeps : Bool) → n ≡ length a → t ≡ (t && (keeps || not (begins (take n a ++ c ∷ []) a)))
no_child a n c t keeps e = and_kept t keeps ∙ ap (λ (b : Bool). t && (keeps || not b)) (sym (take_no_child n a c e))
