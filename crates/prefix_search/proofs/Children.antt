-- The child of a prefix that is next below a key, and the end of a key's prefixes where no child goes on.
use Rattle.std.proofs.Common.{◌≡◌, ◌≢◌, ℕ, ◌-◌, ◌<◌, ◌≤◌, List, [], ◌∷◌, ◌++◌, length, take, drop, get_or, cond, Bool, true, false, suc, Option, Some, None, refl, sym, ap, ◌∙◌, arith}
use Rattle.std.proofs.Math.Seq.{take-suc, drop-cons}
use Rattle.std.proofs.lemmas.List.{take_rest}
use Rattle.anchor_rules.specs.Anchors.{Anchors, AreAnchors, target}
use Rattle.anchor_rules.specs.Items.{Item, item, is_prefix, under, last_leaf, greatest_below, child_below, end_by, IsLongest, leaf_before}
use Rattle.anchor_rules.proofs.ItemParts.{item_is, some_item, item-none, item_closed}
use Rattle.anchor_rules.proofs.Ends.{greatest_some, ends_at-target}
use Rattle.row_words.specs.declared.rows.ItemRow.{ItemRow}
use Rattle.meta_trie.specs.Trie.{bit_of, Says}
use Rattle.prefix_search.specs.Search.{has_child}
use Rattle.prefix_search.proofs.TopBits.{greatest_same}

pub no_child : (it : Item) (rest : List ℕ) → length rest ≡ 0 → child_below it rest ≡ None
no_child it [] h = refl
no_child it (c ∷ rest) h = absurd (omega arith)

pub child_at : (it : Item) (row : ItemRow) (rest : List ℕ) → length rest ≢ 0 → get_or rest 0 0 < 256 → Says row it → greatest_below (bit_of row.bits) (get_or rest 0 0) ≡ child_below it rest
child_at it row [] some byte says = absurd (some refl)
child_at it row (c ∷ rest) some byte says = greatest_same (bit_of row.bits) it.child c (λ e l. says.children e (omega arith))

-- a child that was found is a prefix of an anchor
pub child_prefix : (A : Anchors) (p rest : List ℕ) (it : Item) (d : ℕ) → item A p ≡ Some it → child_below it rest ≡ Some d → is_prefix A (p ++ d ∷ []) ≡ true
child_prefix A p [] it d known h = absurd (cc)
child_prefix A p (c ∷ rest) it d known h = sym ((item_is A p it known).children d) ∙ (greatest_some it.child c d h).passes

-- where the key's next byte is no child of a prefix, no longer prefix of the key has an item
pub none_behind : (A : Anchors) (key : List ℕ) (n m : ℕ) (it : Item) (goes_on : Bool) → item A (take n key) ≡ Some it → goes_on ≡ has_child it (take (length key - n) (drop n key)) → goes_on ≡ false → n < m → m ≤ length key → item A (take m key) ≡ None
none_behind A key n m it goes_on known is last more le =
    let here : n < length key = omega arith in
    let byte : ℕ = get_or key n 0 in
    let next : take (suc n) key ≡ take n key ++ byte ∷ [] = take-suc key n 0 here in
    let none : it.child byte ≡ false = ap (has_child it) (sym (take_rest key n ∙ drop-cons key n 0 here)) ∙ (sym is ∙ last) in
    let first = item-none A (take (suc n) key) (ap (is_prefix A) next ∙ (sym ((item_is A (take n key) it known).children byte) ∙ none)) in
    item_closed A key (suc n) m (omega arith) first

-- the row of a prefix's item tells its last leaf
pub row_last : (A : Anchors) (p : List ℕ) (row : ItemRow) (it : Item) → item A p ≡ Some it → Says row it → row.rightmost ≡ last_leaf (under A p)
row_last A p row it known says = says.last ∙ (item_is A p it known).last

pub row_known : (A : Anchors) (p : List ℕ) → is_prefix A p ≡ true → item A p ≡ None → ⊥
row_known A p here none = let some = some_item A p here in clash (item A p) some.0 none some.1
  where
    clash : (o : Option Item) (it : Item) → o ≡ None → o ≡ Some it → ⊥
    clash o it a b = cc

-- where a search ends, by what its last row says
pub ends_in_child : (A : Anchors) (key : List ℕ) (n : ℕ) (it : Item) (d : ℕ) → AreAnchors A → IsLongest A key n it → child_below it (drop n key) ≡ Some d → last_leaf (under A (take n key ++ d ∷ [])) ≡ target A key
ends_in_child A key n it d are is h = sym (ap (end_by A (take n key) it) h) ∙ ends_at-target A key n it are is

pub ends_at_anchor : (A : Anchors) (key : List ℕ) (n : ℕ) (it : Item) → AreAnchors A → IsLongest A key n it → child_below it (drop n key) ≡ None → it.is_anchor ≡ true → it.leftmost ≡ target A key
ends_at_anchor A key n it are is h here = sym (ap (end_by A (take n key) it) h ∙ ap (λ (s : Bool). cond s it.leftmost (leaf_before A it.leftmost)) here) ∙ ends_at-target A key n it are is

pub ends_before : (A : Anchors) (key : List ℕ) (n : ℕ) (it : Item) → AreAnchors A → IsLongest A key n it → child_below it (drop n key) ≡ None → it.is_anchor ≡ false → leaf_before A it.leftmost ≡ target A key
ends_before A key n it are is h inner = sym (ap (end_by A (take n key) it) h ∙ ap (λ (s : Bool). cond s it.leftmost (leaf_before A it.leftmost)) inner) ∙ ends_at-target A key n it are is
