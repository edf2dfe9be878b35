-- The map of items while the prefixes of a new anchor are put in, from the shortest on.
use Rattle.std.proofs.Common.{◌≡◌, ◌≢◌, ℕ, zero, suc, ◌+◌, ◌*◌, ◌/◌, ◌%◌, ◌^◌, ◌<◌, ◌≤◌, inl, inr, List, [], ◌∷◌, ◌++◌, length, length-append, take, get_or, Option, Some, None, sym, ap, ◌∙◌, refl, arith, eqb-true, eq-eqb, get_or-set_other, get_or-set_same}
use Rattle.std.specs.Prelude.{Bool, true, false, ◌==◌, ◌&&◌, ◌||◌, nat_lt, nat_le, max, if◌then◌else◌}
use mathlib.Core.Bool.{false≢true}
use Rattle.std.proofs.lemmas.Bool.{lt-ltb, le-ltb, le-leb, lt-leb, ne_eqb, eqb-false, cases_order}
use Rattle.std.proofs.lemmas.List.{length-take, take_all}
use Rattle.std.proofs.lemmas.Bool.Decides.{nat_tests}
use Rattle.std.proofs.Math.ListN.{set}
use Rattle.std.proofs.lemmas.Nat.Bits.{bit_at_set_same, bit_at_set_other}
use Rattle.std.specs.Int.{bit_at, w64}
use Rattle.std.specs.Int.Bits.{bit_or}
use Rattle.row_words.specs.declared.rows.ItemRow.{ItemRow}
use Rattle.key_bytes.specs.Common.{lcp}
use Rattle.key_bytes.specs.Order.{is_same}
use Rattle.key_bytes.proofs.Conditions.{or_false}
use Rattle.key_bytes.proofs.Orders.{same_is, same_itself}
use Rattle.anchor_rules.specs.Anchors.{Anchors, with_split}
use Rattle.anchor_rules.specs.Items.{Item, begins, begins_end, is_prefix, item, shared}
use Rattle.anchor_rules.proofs.Prefixes.{begins_is, begins_take, begins_take_lcp, lcp_sym}
use Rattle.anchor_rules.proofs.ItemParts.{item_is, some_item, item-none}
use Rattle.anchor_rules.proofs.ItemChanges.{split_other, split_known, split_new, split_shared}
use Rattle.meta_trie.specs.Trie.{Says, bit_of}
use Rattle.meta_trie.specs.Words.{with_item}
use Rattle.meta_trie.specs.Grows.{mixed, Grows, grown_by, back_count}
use Rattle.meta_trie.proofs.Changing.{with_here, with_other}
use Rattle.meta_trie.proofs.Lists.{not_same}

and_false : (x : Bool) → (x && false) ≡ false
and_false true = refl
and_false false = refl

and_true : (x : Bool) → (x && true) ≡ x
and_true true = refl
and_true false = refl

or_true : (x : Bool) → (x || true) ≡ true
or_true true = refl
or_true false = refl

same_number : (x : ℕ) → (x == x) ≡ true
same_number x = eq-eqb x x refl

pub begun : (p a : List ℕ) → begins p a ≡ true → p ≡ take (length p) a
begun p a b =
    let t = begins_is p a b in
    sym (ap (take (length p)) t.1 ∙ go p t.0)
  where
    go : (q s : List ℕ) → take (length q) (q ++ s) ≡ q
    go [] s = refl
    go (x ∷ q) s = ap (λ (r : List ℕ). x ∷ r) (go q s)

pub begun_short : (p a : List ℕ) → begins p a ≡ true → length p ≤ length a
begun_short p a b =
    let t = begins_is p a b in
    let n = ap length t.1 in
    let m = length-append p t.0 in
    omega (arith, n, m)

-- p stands after the first n lengths
pub mixed_later : (A B : Anchors) (a : List ℕ) (n : ℕ) (p : List ℕ) → n ≤ length p → mixed A B a n p ≡ item A p
mixed_later A B a n p l = ap (λ (t : Bool). if begins p a && t then item B p else item A p) (le-ltb (length p) n l) ∙ ap (λ (t : Bool). if t then item B p else item A p) (and_false (begins p a))

pub mixed_other : (A B : Anchors) (a : List ℕ) (n : ℕ) (p : List ℕ) → begins p a ≡ false → mixed A B a n p ≡ item A p
mixed_other A B a n p b = ap (λ (t : Bool). if t && nat_lt (length p) n then item B p else item A p) b

pub mixed_done : (A B : Anchors) (a : List ℕ) (n : ℕ) (p : List ℕ) → begins p a ≡ true → length p < n → mixed A B a n p ≡ item B p
mixed_done A B a n p b l = ap (λ (t : Bool). if t && nat_lt (length p) n then item B p else item A p) b ∙ ap (λ (t : Bool). if t then item B p else item A p) (lt-ltb (length p) n l)

-- only the prefix of n bytes tells n from one more
mixed_apart : (A B : Anchors) (a : List ℕ) (n : ℕ) (p : List ℕ) → p ≢ take n a → mixed A B a n p ≡ mixed A B a (n + 1) p
mixed_apart A B a n p ne = elim (begins p a) as (λ (t : Bool). begins p a ≡ t → mixed A B a n p ≡ mixed A B a (n + 1) p) [
  | true ↦ λ b. elim (cases_order (length p) n) [
    | inl same ↦ absurd (ne (begun p a b ∙ ap (λ (m : ℕ). take m a) same))
    | inr r ↦ elim r [
      | inl below ↦ mixed_done A B a n p b below ∙ sym (mixed_done A B a (n + 1) p b (omega (arith, below)))
      | inr past ↦ mixed_later A B a n p (omega (arith, past)) ∙ sym (mixed_later A B a (n + 1) p (omega (arith, past)))
    ]
  ]
  | false ↦ λ b. mixed_other A B a n p b ∙ sym (mixed_other A B a (n + 1) p b)
] refl

-- the prefix of n bytes has its new item with one more
mixed_here : (A B : Anchors) (a : List ℕ) (n : ℕ) → n ≤ length a → mixed A B a (n + 1) (take n a) ≡ item B (take n a)
mixed_here A B a n le = mixed_done A B a (n + 1) (take n a) (begins_take n a) (let many = length-take n a in omega (arith, many, le))

apart : (p q : List ℕ) → is_same p q ≡ false → p ≢ q
apart p q other e = false≢true (sym other ∙ ap (λ (r : List ℕ). is_same r q) e ∙ same_itself q)

-- one prefix more was put in
pub mixed_step : (A B : Anchors) (a : List ℕ) (n : ℕ) (it : Item) → n ≤ length a → item B (take n a) ≡ Some it → (p : List ℕ) → with_item (mixed A B a n) (take n a) it p ≡ mixed A B a (n + 1) p
mixed_step A B a n it le is p = elim (is_same p (take n a)) as (λ (t : Bool). is_same p (take n a) ≡ t → with_item (mixed A B a n) (take n a) it p ≡ mixed A B a (n + 1) p) [
  | true ↦ λ same.
      let e : p ≡ take n a = same_is p (take n a) same in
      ap (with_item (mixed A B a n) (take n a) it) e ∙ with_here (mixed A B a n) (take n a) it ∙ sym is ∙ sym (mixed_here A B a n le) ∙ ap (mixed A B a (n + 1)) (sym e)
  | false ↦ λ other.
      let ne = apart p (take n a) other in
      with_other (mixed A B a n) (take n a) it p ne ∙ mixed_apart A B a n p ne
] refl

-- or is as it was
pub mixed_kept : (A B : Anchors) (a : List ℕ) (n : ℕ) → n ≤ length a → item B (take n a) ≡ item A (take n a) → (p : List ℕ) → mixed A B a n p ≡ mixed A B a (n + 1) p
mixed_kept A B a n le is p = elim (is_same p (take n a)) as (λ (t : Bool). is_same p (take n a) ≡ t → mixed A B a n p ≡ mixed A B a (n + 1) p) [
  | true ↦ λ same.
      let e : p ≡ take n a = same_is p (take n a) same in
      let later = mixed_later A B a n (take n a) (let many = length-take n a in omega (arith, many, le)) in
      ap (mixed A B a n) e ∙ later ∙ sym is ∙ sym (mixed_here A B a n le) ∙ ap (mixed A B a (n + 1)) (sym e)
  | false ↦ λ other. mixed_apart A B a n p (apart p (take n a) other)
] refl

module _ (A : Anchors) (left : ℕ) (lo : List ℕ) (hi : Option (List ℕ)) (a : List ℕ) (leaf : ℕ) (g : Grows A left lo hi a) where
  pub mixed_end : (n : ℕ) → length a < n → (p : List ℕ) → mixed A (with_split A left a leaf) a n p ≡ item (with_split A left a leaf) p
  mixed_end n l p = elim (begins p a) as (λ (t : Bool). begins p a ≡ t → mixed A (with_split A left a leaf) a n p ≡ item (with_split A left a leaf) p) [
    | true ↦ λ b. let s = begun_short p a b in mixed_done A (with_split A left a leaf) a n p b (omega (arith, s, l))
    | false ↦ λ b. mixed_other A (with_split A left a leaf) a n p b ∙ sym (split_other A left lo hi a leaf g.rises g.at g.above g.before p b)
  ] refl

  -- a prefix that has an item is among the shared ones
  pub known_shared : (n : ℕ) → n ≤ length a → n ≤ shared lo a hi → (it : Item) × (item A (take n a) ≡ Some it)
  known_shared n le l = some_item A (take n a) (split_shared A left lo hi a leaf g.rises g.at g.above g.before n le ∙ le-leb n (shared lo a hi) l)

  pub unknown_above : (n : ℕ) → n ≤ length a → shared lo a hi < n → item A (take n a) ≡ None
  unknown_above n le l = item-none A (take n a) (split_shared A left lo hi a leaf g.rises g.at g.above g.before n le ∙ lt-leb n (shared lo a hi) l)

  pub grown_item : (n : ℕ) (it : Item) → item A (take n a) ≡ Some it → item (with_split A left a leaf) (take n a) ≡ Some (grown_by (take n a) a leaf (begins (take n a) lo) (begins_end (take n a) hi) it)
  grown_item n it known = split_known A left lo hi a leaf g.rises g.at g.above g.before (take n a) it (begins_take n a) known

  pub fresh_item : (n : ℕ) → item A (take n a) ≡ None → item (with_split A left a leaf) (take n a) ≡ Some (grown_by (take n a) a leaf true true (record { is_anchor = false; leftmost = leaf; rightmost = leaf; child = λ c. false }))
  fresh_item n none = split_new A left lo hi a leaf g.rises g.at g.above g.before (take n a) (begins_take n a) none

-- the bytes behind a prefix of a
pub take_child : (n : ℕ) (a : List ℕ) (c : ℕ) → n < length a → begins (take n a ++ c ∷ []) a ≡ (c == get_or a n 0)
take_child zero [] c l = absurd (omega arith)
take_child zero (x ∷ a) c l = and_true (c == x)
take_child (suc n) [] c l = absurd (omega arith)
take_child (suc n) (x ∷ a) c l = ap (λ (t : Bool). t && begins (take n a ++ c ∷ []) a) (same_number x) ∙ take_child n a c (omega (arith, l))

none_longer : (a : List ℕ) (c : ℕ) → begins (a ++ c ∷ []) a ≡ false
none_longer [] c = refl
none_longer (x ∷ a) c = ap (λ (t : Bool). t && begins (a ++ c ∷ []) a) (same_number x) ∙ none_longer a c

pub take_no_child : (n : ℕ) (a : List ℕ) (c : ℕ) → n ≡ length a → begins (take n a ++ c ∷ []) a ≡ false
take_no_child n a c e = ap (λ (p : List ℕ). begins (p ++ c ∷ []) a) (take_all n a (omega (arith, e))) ∙ none_longer a c

pub take_is : (n : ℕ) (a : List ℕ) → n ≤ length a → is_same (take n a) a ≡ (n == length a)
take_is n a le = elim (n == length a) as (λ (t : Bool). (n == length a) ≡ t → is_same (take n a) a ≡ t) [
  | true ↦ λ is. let e : n ≡ length a = eqb-true n (length a) is in ap (λ (p : List ℕ). is_same p a) (take_all n a (omega (arith, e))) ∙ same_itself a
  | false ↦ λ is. not_same (take n a) a (λ e. let m = ap length e in eqb-false n (length a) is (omega (arith, m, length-take n a, le)))
] refl

-- an item with the leaves and the bytes that it has already
grown_same : (p lo : List ℕ) (hi : Option (List ℕ)) (a : List ℕ) (leaf : ℕ) (it : Item) → begins p lo ≡ true → begins_end p hi ≡ true → is_same p a ≡ false → ((c : ℕ) → (it.child c || begins (p ++ c ∷ []) a) ≡ it.child c)
    → grown_by p a leaf (begins p lo) (begins_end p hi) it ≡ it
grown_same p lo hi a leaf it fe le other has = λ i. record { is_anchor = anchor i; leftmost = first i; rightmost = last i; child = λ c. has c i }
  where
    anchor : (it.is_anchor || is_same p a) ≡ it.is_anchor
    anchor = ap (λ (t : Bool). it.is_anchor || t) other ∙ or_false it.is_anchor

    first : (if begins p lo then it.leftmost else leaf) ≡ it.leftmost
    first = ap (λ (t : Bool). if t then it.leftmost else leaf) fe

    last : (if begins_end p hi then it.rightmost else leaf) ≡ it.rightmost
    last = ap (λ (t : Bool). if t then it.rightmost else leaf) le

module _ (A : Anchors) (left : ℕ) (lo : List ℕ) (hi : Option (List ℕ)) (a : List ℕ) (leaf : ℕ) (g : Grows A left lo hi a) where
  -- a's byte behind a prefix that is shared with it is there already
  has_child : (n : ℕ) (it : Item) → n < length a → n < shared lo a hi → item A (take n a) ≡ Some it → (c : ℕ) → (it.child c || begins (take n a ++ c ∷ []) a) ≡ it.child c
  has_child n it lt l known c = elim (begins (take n a ++ c ∷ []) a) as (λ (t : Bool). begins (take n a ++ c ∷ []) a ≡ t → (it.child c || t) ≡ it.child c) [
    | true ↦ λ b.
        let many : length (take n a ++ c ∷ []) ≡ n + 1 = (let x = length-append (take n a) (c ∷ []) in let y = length-take n a in omega (arith, x, y, lt)) in
        let longer : take n a ++ c ∷ [] ≡ take (n + 1) a = begun (take n a ++ c ∷ []) a b ∙ ap (λ (m : ℕ). take m a) many in
        let known_longer = split_shared A left lo hi a leaf g.rises g.at g.above g.before (n + 1) (omega (arith, lt)) ∙ le-leb (n + 1) (shared lo a hi) (omega (arith, l)) in
        or_true (it.child c) ∙ sym ((item_is A (take n a) it known).children c ∙ ap (is_prefix A) longer ∙ known_longer)
    | false ↦ λ b. or_false (it.child c)
  ] refl

  -- a prefix that both neighbours have, with a byte more that one of them has too, stays as it is
  pub kept_item : (n : ℕ) → n < length a → n < shared lo a hi → begins (take n a) lo ≡ true → begins_end (take n a) hi ≡ true → item (with_split A left a leaf) (take n a) ≡ item A (take n a)
  kept_item n lt l fe le =
      let known = known_shared A left lo hi a leaf g n (omega (arith, lt)) (omega (arith, l)) in
      let other : is_same (take n a) a ≡ false = take_is n a (omega (arith, lt)) ∙ ne_eqb n (length a) (λ e. omega (arith, e, lt)) in
      grown_item A left lo hi a leaf g n known.0 known.1 ∙ ap Some (grown_same (take n a) lo hi a leaf known.0 fe le other (has_child n known.0 lt l known.1)) ∙ sym known.1

-- the counts of the shared prefixes
pub counts_shared : (lo a : List ℕ) (hi : Option (List ℕ)) → max (lcp lo a + 1) (back_count a hi) ≡ shared lo a hi + 1
counts_shared lo a None = grind arith
counts_shared lo a (Some end) = grind arith

test_more : (n x : ℕ) → nat_lt n (x + 1) ≡ nat_le n x
test_more n x = grind (arith, nat_tests)

-- a neighbour begins with n bytes of a
pub front_begins : (lo a : List ℕ) (n : ℕ) → n ≤ length a → nat_lt n (lcp lo a + 1) ≡ begins (take n a) lo
front_begins lo a n le = test_more n (lcp lo a) ∙ ap (nat_le n) (lcp_sym lo a) ∙ sym (begins_take_lcp n a lo le)

pub back_begins : (a : List ℕ) (hi : Option (List ℕ)) (n : ℕ) → n ≤ length a → nat_lt n (back_count a hi) ≡ begins_end (take n a) hi
back_begins a None n le = le-ltb n 0 (omega arith)
back_begins a (Some end) n le = test_more n (lcp a end) ∙ sym (begins_take_lcp n a end le)

-- the row of a prefix says what is known of it with one anchor more
pub says_grown : (item row : ItemRow) (a : List ℕ) (n leaf : ℕ) (first last : Bool) (it : Item) → n ≤ length a → Says item it
    → row.is_anchor ≡ (item.is_anchor || (n == length a)) → row.leftmost ≡ (if first then item.leftmost else leaf) → row.rightmost ≡ (if last then item.rightmost else leaf)
    → ((c : ℕ) → c < 256 → bit_of row.bits c ≡ (bit_of item.bits c || begins (take n a ++ c ∷ []) a))
    → Says row (grown_by (take n a) a leaf first last it)
says_grown item row a n leaf first last it le says ea ef el eb = record {
  anchor = ea ∙ ap (λ (t : Bool). t || (n == length a)) says.anchor ∙ ap (λ (t : Bool). it.is_anchor || t) (sym (take_is n a le));
  first = ef ∙ ap (λ (l : ℕ). if first then l else leaf) says.first;
  last = el ∙ ap (λ (l : ℕ). if last then l else leaf) says.last;
  children = λ c l. eb c l ∙ ap (λ (t : Bool). t || begins (take n a ++ c ∷ []) a) (says.children c l);
}

-- one bit was set
pub bits_set : (bits : List ℕ) (c e : ℕ) → length bits ≡ 4 → c < 256 → e < 256 → bit_of (set bits (c / 64) (bit_or (get_or bits (c / 64) 0) (1 * 2 ^ (c % 64) % 2 ^ 64))) e ≡ (bit_of bits e || (e == c))
bits_set bits c e many cl el = elim (cases_order (e / 64) (c / 64)) [
  | inl same ↦
      let room : c / 64 < length bits = omega (arith, many, cl) in
      let word : get_or (set bits (c / 64) (bit_or (get_or bits (c / 64) 0) (1 * 2 ^ (c % 64) % 2 ^ 64))) (e / 64) 0 ≡ bit_or (get_or bits (c / 64) 0) (1 * 2 ^ (c % 64) % 2 ^ 64) =
      ap (λ (x : ℕ). get_or (set bits (c / 64) (bit_or (get_or bits (c / 64) 0) (1 * 2 ^ (c % 64) % 2 ^ 64))) x 0) same ∙ get_or-set_same bits (c / 64) _ 0 room in
      ap (λ (w : ℕ). w / 2 ^ (e % 64) % 2 == 1) word ∙ elim (cases_order (e % 64) (c % 64)) [
        | inl bit ↦
            let e_is : e ≡ c = omega (arith, same, bit) in
            ap (λ (i : ℕ). bit_at (bit_or (get_or bits (c / 64) 0) (1 * 2 ^ (c % 64) % 2 ^ 64)) i == 1) bit
            ∙ ap (λ (x : ℕ). x == 1) (bit_at_set_same w64 (get_or bits (c / 64) 0) (c % 64) (omega arith))
            ∙ sym (or_true (bit_of bits e)) ∙ ap (λ (t : Bool). bit_of bits e || t) (sym (eq-eqb e c e_is))
        | inr r ↦
            let ne : e % 64 ≢ c % 64 = elim r [ inl below ↦ λ q. omega (arith, q, below) | inr above ↦ λ q. omega (arith, q, above) ] in
            let far : e ≢ c = λ q. ne (ap (λ (x : ℕ). x % 64) q) in
            ap (λ (x : ℕ). x == 1) (bit_at_set_other w64 (get_or bits (c / 64) 0) (c % 64) (omega arith) (e % 64) ne)
            ∙ ap (λ (x : ℕ). bit_at (get_or bits x 0) (e % 64) == 1) (sym same)
            ∙ sym (or_false (bit_of bits e)) ∙ ap (λ (t : Bool). bit_of bits e || t) (sym (ne_eqb e c far))
      ]
  | inr r ↦
      let ne : e / 64 ≢ c / 64 = elim r [ inl below ↦ λ q. omega (arith, q, below) | inr above ↦ λ q. omega (arith, q, above) ] in
      let far : e ≢ c = λ q. ne (ap (λ (x : ℕ). x / 64) q) in
      ap (λ (w : ℕ). w / 2 ^ (e % 64) % 2 == 1) (get_or-set_other bits (c / 64) (e / 64) _ 0 ne)
      ∙ sym (or_false (bit_of bits e)) ∙ ap (λ (t : Bool). bit_of bits e || t) (sym (ne_eqb e c far))
]

-- the child of a prefix, or none
pub child_set : (a : List ℕ) (n c : ℕ) (t : Bool) → n < length a → (t || (c == get_or a n 0)) ≡ (t || begins (take n a ++ c ∷ []) a)
child_set a n c t l = ap (λ (b : Bool). t || b) (sym (take_child n a c l))

pub child_none : (a : List ℕ) (n c : ℕ) (t : Bool) → n ≡ length a → t ≡ (t || begins (take n a ++ c ∷ []) a)
child_none a n c t e = sym (or_false t) ∙ ap (λ (b : Bool). t || b) (sym (take_no_child n a c e))
