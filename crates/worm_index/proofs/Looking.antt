-- Which words a search and a lock look at, and how many rows of the pinned table.
use Rattle.std.proofs.Common.{◌≡◌, ℕ, ◌+◌, ◌%◌, ◌≤◌, ◌<◌, List, [], ◌∷◌, ◌++◌, ⊎_elim, inl, inr, refl, sym, ap, ◌∙◌, subst, arith, append_assoc, Option, Some, None}
use Rattle.std.proofs.lemmas.List.Elements.{All-append}
use Rattle.std.specs.Prelude.{◌⊎◌}
use Rattle.row_words.specs.declared.shape.Shape.{Shape}
use Rattle.map_model.specs.declared.refusal.Again.{Again}
use Rattle.map_model.specs.declared.refusal.Again.TheVariants.{Locked, Changed, Stale, Moved, Turn, Pinned, Bin, Filled}
use Rattle.board_rule.specs.declared.view.View.{View}
use Rattle.board_rule.specs.Rule.{leaf_word, table_at}
use Rattle.board_rule.specs.Views.{VERSION, looked, Deed}
use Rattle.board_rule.specs.Steps.{Sat, Ends, pin_of, the_pin}
use Rattle.leaf_versions.specs.declared.held.Held.{Held}
use Rattle.leaf_versions.specs.Holding.{Took}
use Rattle.leaf_versions.specs.Refused.{IsRefused}
use Rattle.board_rule.specs.declared.board.Board.{Board}
use Rattle.board_rule.specs.Pins.{Pin}
use Rattle.twin_tables.specs.declared.pinned.Pinned.{Pinned as Lent}
use Rattle.twin_tables.specs.Lent.{pinned_view, pinned_shape, pinned_read, PinnedStays}
use Rattle.twin_tables.specs.Pins.{pin_looks, Pins, PinMoved}
use Rattle.twin_tables.specs.Reads.{read_by, LooksAt, IsWordOf}
use Rattle.twin_tables.specs.Lending.{looks_at_none, looks_at_one, looks_at_on, looks_at_wide}
use Rattle.twin_tables.proofs.Reading.{read_none}
use Rattle.worm_index.specs.Looks.{OnlyReads, LeafLooks}

-- a word that such a call may look at
abbrev Allowed : Shape → ℕ → ℕ → ℕ → Type 0
Allowed k version leaf word = (word ≡ VERSION) ⊎ IsWordOf k (version % 2) word ⊎ (word ≡ leaf_word k leaf)

-- the two looks of a pin
pub reads_pin : (k : Shape) (version second leaf before now : ℕ) (v p : View) → leaf < k.leaves → p.looks ≡ v.looks ++ pin_looks version second → before ≤ now → OnlyReads k version leaf before now v p
reads_pin k version second leaf before now v p near looks le =
    let first = table_at k (version % 2) in
    let mid : View = looked VERSION version v in
    let split : p.looks ≡ mid.looks ++ (VERSION, second) ∷ [] = looks ∙ sym (append_assoc v.looks ((VERSION, version) ∷ []) ((VERSION, second) ∷ [])) in
    let one = read_none k first VERSION version v mid refl (omega arith) in
    let two = read_none k first VERSION second mid p split (omega arith) in
    let at = looks_at_one (Allowed k version leaf) mid p VERSION second split (inl refl) in
    record { near = near; own = at.0; looks = at.1 ∙ append_assoc v.looks ((VERSION, version) ∷ []) at.0; only = at.2; rows = omega (arith, one, two, le) }

-- further looks at such words, which read no more rows than they count
pub reads_on : (k : Shape) (version leaf before mid now : ℕ) (u v w : View) → OnlyReads k version leaf before mid u v → LooksAt (Allowed k version leaf) v w
    → read_by k (table_at k (version % 2)) w.looks + mid ≤ read_by k (table_at k (version % 2)) v.looks + now → OnlyReads k version leaf before now u w
reads_on k version leaf before mid now u v w a b rows = record {
  near = a.near;
  own = a.own ++ b.0;
  looks = b.1 ∙ (ap (λ (l : List (ℕ × ℕ)). l ++ b.0) a.looks ∙ append_assoc u.looks ((VERSION, version) ∷ a.own) b.0);
  only = All-append (λ (l : ℕ × ℕ). Allowed k version leaf l.0) a.own b.0 a.only b.2;
  rows = omega (arith, a.rows, rows);
}

-- a search by the pinned table
pub reads_search : (k : Shape) (version leaf before now : ℕ) (u v w : View) → OnlyReads k version leaf before before u v → LooksAt (IsWordOf k (version % 2)) v w
    → read_by k (table_at k (version % 2)) w.looks + before ≡ read_by k (table_at k (version % 2)) v.looks + now → OnlyReads k version leaf before now u w
reads_search k version leaf before now u v w a b rows =
    reads_on k version leaf before before now u v w a (looks_at_wide (IsWordOf k (version % 2)) (Allowed k version leaf) v w (λ word p. inr (inl p)) b) (omega (arith, rows))

-- the lock of the leaf, which is a step
pub reads_lock : (k : Shape) (version leaf before mid now : ℕ) (u v w : View) → OnlyReads k version leaf before mid u v → LeafLooks k leaf v w → mid ≤ now → OnlyReads k version leaf before now u w
reads_lock k version leaf before mid now u v w a b le =
    reads_on k version leaf before mid now u v w a (looks_at_wide (λ word. word ≡ leaf_word k leaf) (Allowed k version leaf) v w (λ word p. inr (inr p)) b.0) (let same = b.1 (version % 2) in omega (arith, same, le))

-- looks are all that is told of
pub reads_same : (k : Shape) (version leaf before now : ℕ) (u v w : View) → OnlyReads k version leaf before now u v → w.looks ≡ v.looks → OnlyReads k version leaf before now u w
reads_same k version leaf before now u v w a e = record {
  near = a.near;
  own = a.own;
  looks = e ∙ a.looks;
  only = a.only;
  rows = subst (λ (l : List (ℕ × ℕ)). read_by k (table_at k (version % 2)) l + before ≤ read_by k (table_at k (version % 2)) u.looks + now) (sym e) a.rows;
}

-- one look at the leaf's word, or none
pub leaf_look : (k : Shape) (leaf found : ℕ) (v w : View) → leaf < k.leaves → w.looks ≡ v.looks ++ (leaf_word k leaf, found) ∷ [] → LeafLooks k leaf v w
leaf_look k leaf found v w near e = (
  looks_at_one (λ word. word ≡ leaf_word k leaf) v w (leaf_word k leaf) found e refl,
  λ t. read_none k (table_at k t) (leaf_word k leaf) found v w e (omega (arith, near)),
)

pub leaf_no_look : (k : Shape) (leaf : ℕ) (v w : View) → w.looks ≡ v.looks → LeafLooks k leaf v w
leaf_no_look k leaf v w e = (looks_at_none (λ word. word ≡ leaf_word k leaf) v w e, λ t. ap (read_by k (table_at k t)) e)

pub leaf_looks_on : (k : Shape) (leaf : ℕ) (u v w : View) → LeafLooks k leaf u v → LeafLooks k leaf v w → LeafLooks k leaf u w
leaf_looks_on k leaf u v w a b = (looks_at_on (λ word. word ≡ leaf_word k leaf) u v w a.0 b.0, λ t. b.1 t ∙ a.1 t)

-- a lock that was refused
pub refused_looks : (k : Shape) (leaf seen version : ℕ) (u w : View) (again : Again) → leaf < k.leaves → IsRefused k leaf seen version u w again → LeafLooks k leaf u w
refused_looks k leaf seen version u w (Locked l holder) near r = ⊎_elim
    (λ p. leaf_no_look k leaf u w (ap (λ (x : View). x.looks) p.1))
    (λ p. leaf_look k leaf p.0 u w near (ap (λ (x : View). x.looks) p.1.after))
    r.1
refused_looks k leaf seen version u w (Changed l b a) near r = leaf_look k leaf a u w near (ap (λ (x : View). x.looks) r.2.after)
refused_looks k leaf seen version u w (Stale l expected old) near r = leaf_no_look k leaf u w (ap (λ (x : View). x.looks) r.5)
refused_looks k leaf seen version u w (Moved first second) near r = absurd r
refused_looks k leaf seen version u w (Turn holder) near r = absurd r
refused_looks k leaf seen version u w (Pinned table pins) near r = absurd r
refused_looks k leaf seen version u w (Bin holder) near r = absurd r
refused_looks k leaf seen version u w (Filled l count hard) near r = absurd r

-- one that was answered
pub took_looks : (k : Shape) (leaf seen searched lane : ℕ) (u w : View) (held : Held) → leaf < k.leaves → Took k leaf seen searched lane u w held → LeafLooks k leaf u w
took_looks k leaf seen searched lane u w held near t = leaf_look k leaf seen u w near (ap (λ (x : View). x.looks) t.after)

-- a pin, a search by it, and its end
pub search_reads : (k : Shape) (version leaf before now : ℕ) (v w : View) (a b : Lent) → leaf < k.leaves → Pins k version v (pinned_view a) → pinned_shape a ≡ k → PinnedStays a b → pinned_read b + before ≡ pinned_read a + now → w.looks ≡ (pinned_view b).looks
    → OnlyReads k version leaf before now v w
search_reads k version leaf before now v w a b near pins shape stays counted back =
    let p = pinned_view a in
    let q = pinned_view b in
    let table = pins.table_is in
    let shape_b : pinned_shape b ≡ k = ap (λ (x : Board). x.shape) stays.board ∙ shape in
    let table_b : (pin_of q).table ≡ version % 2 = ap (λ (x : Option Pin). (the_pin x).table) stays.only.pin ∙ table in
    let first : pinned_read a ≡ read_by k (table_at k (version % 2)) p.looks = ap (λ (z : Shape × ℕ). read_by z.0 (table_at z.0 z.1) p.looks) (λ i. (shape i, table i)) in
    let second : pinned_read b ≡ read_by k (table_at k (version % 2)) q.looks = ap (λ (z : Shape × ℕ). read_by z.0 (table_at z.0 z.1) q.looks) (λ i. (shape_b i, table_b i)) in
    let looks = subst (λ (z : Shape × ℕ). LooksAt (IsWordOf z.0 z.1) p q) (λ i. (shape i, table i)) stays.looks in
    reads_same k version leaf before now v q w (reads_search k version leaf before now v p q (reads_pin k version version leaf before before v p near pins.looks (omega arith)) looks (omega (arith, counted, first, second))) back

-- a pin that was taken back at once
pub moved_reads : (k : Shape) (before now : ℕ) (v w : View) (again : Again) → 1 ≤ k.leaves → (m : PinMoved again v w) → before ≤ now → OnlyReads k m.first 0 before now v w
moved_reads k before now v w again some m le = reads_pin k m.first m.second 0 before now v w (omega (arith, some)) m.looks le

-- an unlock is no look
pub ends_looks : (word leaf new lane : ℕ) (d : Deed) (m n : Sat) → Ends word leaf new lane d m n → n.0.looks ≡ m.0.looks
ends_looks word leaf new lane None m n ends = ap (λ (x : Sat). x.0.looks) ends
ends_looks word leaf new lane (Some d) m n ends = ap (λ (x : Sat). x.0.looks) ends.1
