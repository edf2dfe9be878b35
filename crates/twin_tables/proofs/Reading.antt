-- Which words of a table read a row.
use Rattle.std.proofs.Common.{◌≡◌, ◌≢◌, ℕ, ◌+◌, ◌-◌, ◌*◌, ◌%◌, ◌<◌, ◌≤◌, List, [], ◌∷◌, ◌++◌, arith, ap, sym, ◌∙◌, true, false, cond, ltb}
use Rattle.std.specs.Prelude.{◌==◌}
use Rattle.std.proofs.lemmas.Bool.{lt-ltb, le-ltb}
use Rattle.std.proofs.lemmas.Bool.Decides.{nat_tests}
use Rattle.std.proofs.lemmas.Nat.{mod-mul-add}
use Rattle.std.proofs.lemmas.List.Sums.{sum_by-append}
use Rattle.row_words.specs.declared.shape.Shape.{Shape}
use Rattle.board_rule.specs.declared.view.View.{View}
use Rattle.row_words.specs.Layout.{item_word, rows_begin, leaf_word}
use Rattle.twin_tables.specs.Reads.{read_at, read_by}

-- the test of a part of a word's place
part_is : (i from size at part : ℕ) → i ≡ from + (size * at + part) → part < size → (i - from) % size ≡ part
part_is i from size at part e lt =
    let same : i - from ≡ at * size + part = omega arith in
    ap (λ n. n % size) same ∙ mod-mul-add at size part lt

same_test : (a b : ℕ) → a ≡ b → (a == b) ≡ true
same_test a b e = grind (arith, nat_tests)

other_test : (a b : ℕ) → a ≢ b → (a == b) ≡ false
other_test a b e = grind (arith, nat_tests)

-- the header and the heads are no rows
pub read-front : (k : Shape) (i : ℕ) → i < 4 + k.heads → read_at k i ≡ 0
unfolding read_at
read-front k i lt = ap (λ b. cond b 0 (cond (ltb i (rows_begin k)) (cond ((i - item_word k 0) % 8 == 0) 1 0) (cond ((i - rows_begin k) % 35 == 33) 1 0))) (lt-ltb i (item_word k 0) (omega arith))

-- a word of the items
read-items : (k : Shape) (at part : ℕ) → at < k.items → part < 8 → read_at k (item_word k at + part) ≡ cond (part == 0) 1 0
unfolding read_at
read-items k at part less low =
    let i : ℕ = item_word k at + part in
    ap (λ b. cond b 0 (cond (ltb i (rows_begin k)) (cond ((i - item_word k 0) % 8 == 0) 1 0) (cond ((i - rows_begin k) % 35 == 33) 1 0))) (le-ltb i (item_word k 0) (omega arith))
    ∙ (ap (λ b. cond b (cond ((i - item_word k 0) % 8 == 0) 1 0) (cond ((i - rows_begin k) % 35 == 33) 1 0)) (lt-ltb i (rows_begin k) (omega arith))
    ∙ ap (λ n. cond (n == 0) 1 0) (part_is i (item_word k 0) 8 at part (omega arith) low))

-- a word of the leaf rows
read-leaves : (k : Shape) (leaf part : ℕ) → part < 35 → read_at k (leaf_word k leaf + part) ≡ cond (part == 33) 1 0
unfolding read_at
read-leaves k leaf part low =
    let i : ℕ = leaf_word k leaf + part in
    ap (λ b. cond b 0 (cond (ltb i (rows_begin k)) (cond ((i - item_word k 0) % 8 == 0) 1 0) (cond ((i - rows_begin k) % 35 == 33) 1 0))) (le-ltb i (item_word k 0) (omega arith))
    ∙ (ap (λ b. cond b (cond ((i - item_word k 0) % 8 == 0) 1 0) (cond ((i - rows_begin k) % 35 == 33) 1 0)) (le-ltb i (rows_begin k) (omega arith))
    ∙ ap (λ n. cond (n == 33) 1 0) (part_is i (rows_begin k) 35 leaf part (omega arith) low))

pub read-item : (k : Shape) (at : ℕ) → at < k.items → read_at k (item_word k at) ≡ 1
read-item k at less =
    let first : item_word k at + 0 ≡ item_word k at = omega arith in
    ap (read_at k) (sym first) ∙ read-items k at 0 less (omega arith)

pub read-item_part : (k : Shape) (at part : ℕ) → at < k.items → part < 8 → part ≢ 0 → read_at k (item_word k at + part) ≡ 0
read-item_part k at part less low inner = read-items k at part less low ∙ ap (λ b. cond b 1 0) (other_test part 0 inner)

pub read-before : (k : Shape) (leaf : ℕ) → read_at k (leaf_word k leaf + 33) ≡ 1
read-before k leaf = read-leaves k leaf 33 (omega arith)

pub read-leaf_part : (k : Shape) (leaf part : ℕ) → part < 35 → part ≢ 33 → read_at k (leaf_word k leaf + part) ≡ 0
read-leaf_part k leaf part low inner = read-leaves k leaf part low ∙ ap (λ b. cond b 1 0) (other_test part 33 inner)

-- one look more
pub read-more : (k : Shape) (first i found : ℕ) (looks : List (ℕ × ℕ)) → read_by k first (looks ++ (first + i, found) ∷ []) ≡ read_by k first looks + read_at k i
read-more k first i found looks =
    let place : first + i - first ≡ i = omega arith in
    sum_by-append (λ (l : ℕ × ℕ). read_at k (l.0 - first)) looks ((first + i, found) ∷ []) ∙ ap (λ n. read_by k first looks + (0 + read_at k n)) place ∙ omega arith

-- the looks at an item's first three words read one row
pub three_reads : (k k1 k2 : Shape) (at first r r1 r2 r3 : ℕ) → at < k.items → k1 ≡ k → k2 ≡ k1 → first ≡ item_word k at → r1 ≡ r + read_at k first → r2 ≡ r1 + read_at k1 (first + 1) → r3 ≡ r2 + read_at k2 (first + 2) → r3 ≡ r + 1
three_reads k k1 k2 at first r r1 r2 r3 less s1 s2 e a b d =
    let one = ap (read_at k) e ∙ read-item k at less in
    let two = ap (λ (z : Shape). read_at z (first + 1)) s1 ∙ (ap (λ n. read_at k (n + 1)) e ∙ read-item_part k at 1 less (omega arith) (omega arith)) in
    let three = ap (λ (z : Shape). read_at z (first + 2)) (s2 ∙ s1) ∙ (ap (λ n. read_at k (n + 2)) e ∙ read-item_part k at 2 less (omega arith) (omega arith)) in
    omega (arith, a, b, d, one, two, three)

-- a look at another word of an item reads none
pub no_read_item : (k z : Shape) (at part i : ℕ) → at < k.items → z ≡ k → i ≡ item_word k at + part → part < 8 → part ≢ 0 → read_at z i ≡ 0
no_read_item k z at part i less s e low inner = ap (λ (x : Shape). read_at x i) s ∙ (ap (read_at k) e ∙ read-item_part k at part less low inner)

-- and one at a word of a leaf's row only if that names the leaf before
pub no_read_leaf : (k : Shape) (leaf part i r r1 : ℕ) → i ≡ leaf_word k leaf → part < 35 → part ≢ 33 → r1 ≡ r + read_at k (i + part) → r1 ≡ r
no_read_leaf k leaf part i r r1 e low inner a = let none = ap (λ n. read_at k (n + part)) e ∙ read-leaf_part k leaf part low inner in omega (arith, a, none)

pub one_read_leaf : (k : Shape) (leaf i r r1 : ℕ) → i ≡ leaf_word k leaf → r1 ≡ r + read_at k (i + 33) → r1 ≡ r + 1
one_read_leaf k leaf i r r1 e a = let one = ap (λ n. read_at k (n + 33)) e ∙ read-before k leaf in omega (arith, a, one)

-- a look at a word that doesn't lie behind the table's first reads no row
pub read_none : (k : Shape) (first word found : ℕ) (v w : View) → w.looks ≡ v.looks ++ (word, found) ∷ [] → word ≤ first → read_by k first w.looks ≡ read_by k first v.looks
read_none k first word found v w e low =
    let zero : word - first ≡ 0 = omega arith in
    ap (read_by k first) e
    ∙ (sum_by-append (λ (l : ℕ × ℕ). read_at k (l.0 - first)) v.looks ((word, found) ∷ [])
    ∙ (ap (λ n. read_by k first v.looks + (0 + read_at k n)) zero ∙ (ap (λ n. read_by k first v.looks + (0 + n)) (read-front k 0 (omega arith)) ∙ omega arith)))
