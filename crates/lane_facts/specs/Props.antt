-- Facts of histories that have one proof at most, and that a value isn't there.
use Rattle.std.specs.Prelude.{◌≡◌, ◌+◌, ℕ, zero, suc, List, [], ◌∷◌, Option, Some, None, refl}
use Rattle.std.specs.Coded.{Coded, Coded-set, coded×, coded_ℕ, coded_list, code_by, ×_prop, Unit-prop}
use mathlib.Core.Path.{path_j', subst, sym, ◌∙◌}
use Rattle.map_model.specs.Calls.{Reply, Value, Absent, New, Set, Gone, Pairs, answer_of, map_after}
use Rattle.map_model.specs.History.{Entry, IsLegal, IsLegalFrom, IsNumbered, CountsFrom, own}
use Rattle.map_model.specs.Maps as maps

abbrev Map : Type 0
Map = maps.Pairs (List ℕ)

abbrev Parts : Type 0
Parts = ℕ × (List ℕ × Map)

abbrev parts_of : Reply → Parts
parts_of (Value value) = (0, (value, []))
parts_of Absent = (1, ([], []))
parts_of New = (2, ([], []))
parts_of Set = (3, ([], []))
parts_of Gone = (4, ([], []))
parts_of (Pairs pairs) = (5, ([], pairs))

abbrev reply_by : ℕ → List ℕ → Map → Reply
reply_by zero value pairs = Value value
reply_by (suc zero) value pairs = Absent
reply_by (suc (suc zero)) value pairs = New
reply_by (suc (suc (suc zero))) value pairs = Set
reply_by (suc (suc (suc (suc zero)))) value pairs = Gone
reply_by (suc (suc (suc (suc (suc n))))) value pairs = Pairs pairs

back : (r : Reply) → reply_by (parts_of r).0 (parts_of r).1.0 (parts_of r).1.1 ≡ r
back (Value value) = refl
back Absent = refl
back New = refl
back Set = refl
back Gone = refl
back (Pairs pairs) = refl

abbrev coded_map : Coded Map
coded_map = coded_list (coded× (coded_list coded_ℕ) (coded_list coded_ℕ))

abbrev coded_reply : Coded Reply
coded_reply = code_by Parts (coded× coded_ℕ (coded× (coded_list coded_ℕ) coded_map)) parts_of (λ (x : Parts). reply_by x.0 x.1.0 x.1.1) back

legal_from : (m : Map) (h : List Entry) → IsProp (IsLegalFrom m h)
legal_from m [] = Unit-prop
legal_from m (e ∷ h) = ×_prop (Coded-set coded_reply e.reply (answer_of m e.call)) (legal_from (map_after m e.call) h)

pub legal_prop : (h : List Entry) → IsProp (IsLegal h)
legal_prop h = legal_from [] h

counts_from : (n : ℕ) (h : List Entry) → IsProp (CountsFrom n h)
counts_from n [] = Unit-prop
counts_from n (e ∷ h) = ×_prop (Coded-set coded_ℕ e.number n) (counts_from (n + 1) h)

pub numbered_prop : (h : List Entry) → IsProp (IsNumbered h)
numbered_prop h a b = λ i. λ lane. counts_from 0 (own lane h) (a lane) (b lane) i

-- that there is nothing
module _ {A : Type 0} where
  abbrev IsNone : Option A → Type 0
  IsNone None = Unit {0}
  IsNone (Some x) = ⊥

  not_some : (x : A) → Some x ≡ None → ⊥
  not_some x is = subst IsNone (sym is) tt

  abbrev the_one : (o : Option A) → o ≡ None → o ≡ None
  the_one None is = refl
  the_one (Some x) is = is

  is_the_one : (o : Option A) (is : o ≡ None) → is ≡ the_one o is
  is_the_one o is = path_j' (λ (x : Option A) (p : x ≡ None). p ≡ the_one x p) refl is

  pub none_prop : (o : Option A) → IsProp (o ≡ None)
  none_prop None a b = is_the_one None a ∙ sym (is_the_one None b)
  none_prop (Some x) a b = absurd (not_some x a)
