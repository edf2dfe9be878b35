-- The order of byte strings and of ends: total, transitive, and it ties only what is the same.
use Rattle.std.proofs.Common.{◌≡◌, ℕ, List, [], ◌∷◌, Bool, true, false, refl, sym, ap, ◌∙◌, subst, inl, inr, ◌⊎◌}
use mathlib.Core.Bool.{false≢true}
use Rattle.std.specs.declared.cmp.Ordering.{Ordering}
use Rattle.std.specs.declared.cmp.Ordering.TheVariants.{Less, Equal, Greater}
use Rattle.std.specs.Ordering.{nat_cmp, is_lt, is_eq, ordering_reverse}
use Rattle.std.specs.Cmp.Lexicographic.{slice_cmp}
use Rattle.std.specs.FinMap.{slice_cmp-IsAntisymmetric, nat_cmp-IsAntisymmetric}
use Rattle.std.proofs.lemmas.Cmp.{nat_list_cmp_total, tied_itself}
use Rattle.key_bytes.specs.Order.{bytes_cmp, is_below, is_same}
use Rattle.key_bytes.specs.Bound.{bound_cmp, is_under}
use Rattle.key_bytes.specs.declared.bound.Bound.{Bound}
use Rattle.key_bytes.specs.declared.bound.Bound.TheVariants.{Low, At, High}

-- what the tests of an ordering say
pub less_from : (o : Ordering) → is_lt o ≡ true → o ≡ Less
less_from Less h = refl
less_from Equal h = cc
less_from Greater h = cc

pub equal_from : (o : Ordering) → is_eq o ≡ true → o ≡ Equal
equal_from Less h = cc
equal_from Equal h = refl
equal_from Greater h = cc

pub below_trans : (a b c : List ℕ) → is_below a b ≡ true → is_below b c ≡ true → is_below a c ≡ true
below_trans a b c p q = ap is_lt (nat_list_cmp_total.trans a b c (less_from _ p) (less_from _ q))

pub same_is : (a b : List ℕ) → is_same a b ≡ true → a ≡ b
same_is a b p = slice_cmp-IsAntisymmetric nat_cmp-IsAntisymmetric a b (equal_from _ p)

pub same_itself : (a : List ℕ) → is_same a a ≡ true
same_itself a = ap is_eq (tied_itself nat_list_cmp_total a)

-- the order seen from the other side
pub bytes_cmp-back : (a b : List ℕ) → bytes_cmp b a ≡ ordering_reverse (bytes_cmp a b)
bytes_cmp-back a b = nat_list_cmp_total.antisymm b a

-- below one way isn't the same, and isn't below the other way
pub below_not_same : (a b : List ℕ) → is_below a b ≡ true → is_same a b ≡ false
below_not_same a b p = ap is_eq (less_from _ p)

pub below_not_same_back : (a b : List ℕ) → is_below a b ≡ true → is_same b a ≡ false
below_not_same_back a b p = ap is_eq (bytes_cmp-back a b ∙ ap ordering_reverse (less_from _ p))

pub below_not_back : (a b : List ℕ) → is_below a b ≡ true → is_below b a ≡ false
below_not_back a b p = ap is_lt (bytes_cmp-back a b ∙ ap ordering_reverse (less_from _ p))

pub not_below_itself : (a : List ℕ) → is_below a a ≡ false
not_below_itself a = ap is_lt (tied_itself nat_list_cmp_total a)

-- what isn't below is the same or above
pub not_below_cases : (k a : List ℕ) → is_below k a ≡ false → (k ≡ a) ⊎ (is_below a k ≡ true)
not_below_cases k a not_less = elim (slice_cmp nat_cmp k a) as (λ o. slice_cmp nat_cmp k a ≡ o → (k ≡ a) ⊎ (is_below a k ≡ true)) [
  | Less ↦ λ e. absurd (false≢true (sym not_less ∙ ap is_lt e))
  | Equal ↦ λ e. inl (slice_cmp-IsAntisymmetric nat_cmp-IsAntisymmetric k a e)
  | Greater ↦ λ e. inr (ap is_lt (nat_list_cmp_total.antisymm a k ∙ ap ordering_reverse e))
] refl

-- where two byte strings are, of three places
pub data Placed (a b : List ℕ) : Type 0 where
  less : is_below a b ≡ true → Placed a b
  same : a ≡ b → Placed a b
  more : is_below b a ≡ true → Placed a b

by_test : (a b : List ℕ) (t : Bool) → is_below a b ≡ t → Placed a b
by_test a b true e = less e
by_test a b false e = elim (not_below_cases a b e) [ inl q ↦ same q | inr q ↦ more q ]

pub placed : (a b : List ℕ) → Placed a b
placed a b = by_test a b (is_below a b) refl

pub same_back : (a b : List ℕ) → is_same a b ≡ is_same b a
same_back a b = elim (placed a b) [
  | less h ↦ below_not_same a b h ∙ sym (below_not_same_back a b h)
  | same h ↦ subst (λ x. is_same a x ≡ is_same x a) h refl
  | more h ↦ below_not_same_back b a h ∙ sym (below_not_same b a h)
]

-- the empty string is the least
pub not_below_empty : (a : List ℕ) → is_below a [] ≡ false
not_below_empty [] = refl
not_below_empty (x ∷ a) = refl

-- from below one string to below another that isn't below it
pub below_through : (k a b : List ℕ) → is_below k a ≡ true → is_below b a ≡ false → is_below k b ≡ true
below_through k a b below low = elim (not_below_cases b a low) [
  | inl tied ↦ subst (λ x. is_below k x ≡ true) (sym tied) below
  | inr above ↦ below_trans k a b below above
]

-- from a string that isn't above to one below
pub below_behind : (a b k : List ℕ) → is_below b a ≡ false → is_below b k ≡ true → is_below a k ≡ true
below_behind a b k low below = elim (not_below_cases b a low) [
  | inl tied ↦ subst (λ x. is_below x k ≡ true) tied below
  | inr above ↦ below_trans a b k above below
]

-- an end seen from a key
pub under_is : (upto : Bound) (key : List ℕ) → is_under upto key ≡ is_lt (bound_cmp (At key) upto)
under_is Low key = refl
under_is (At upto) key = refl
under_is High key = refl

pub bound_cmp-itself : (a : Bound) → bound_cmp a a ≡ Equal
bound_cmp-itself Low = refl
bound_cmp-itself (At a) = tied_itself nat_list_cmp_total a
bound_cmp-itself High = refl

pub bound_cmp-back : (a b : Bound) → bound_cmp b a ≡ ordering_reverse (bound_cmp a b)
bound_cmp-back Low Low = refl
bound_cmp-back Low (At b) = refl
bound_cmp-back Low High = refl
bound_cmp-back (At a) Low = refl
bound_cmp-back (At a) (At b) = bytes_cmp-back a b
bound_cmp-back (At a) High = refl
bound_cmp-back High Low = refl
bound_cmp-back High (At b) = refl
bound_cmp-back High High = refl

pub bound_same : (a b : Bound) → bound_cmp a b ≡ Equal → a ≡ b
bound_same Low Low e = refl
bound_same Low (At b) e = cc
bound_same Low High e = cc
bound_same (At a) Low e = cc
bound_same (At a) (At b) e = ap At (slice_cmp-IsAntisymmetric nat_cmp-IsAntisymmetric a b e)
bound_same (At a) High e = cc
bound_same High Low e = cc
bound_same High (At b) e = cc
bound_same High High e = refl

pub bound_trans : (a b c : Bound) → bound_cmp a b ≡ Less → bound_cmp b c ≡ Less → bound_cmp a c ≡ Less
bound_trans Low Low c p q = cc
bound_trans Low (At b) Low p q = cc
bound_trans Low (At b) (At c) p q = refl
bound_trans Low (At b) High p q = refl
bound_trans Low High Low p q = cc
bound_trans Low High (At c) p q = cc
bound_trans Low High High p q = cc
bound_trans (At a) Low c p q = cc
bound_trans (At a) (At b) Low p q = cc
bound_trans (At a) (At b) (At c) p q = nat_list_cmp_total.trans a b c p q
bound_trans (At a) (At b) High p q = refl
bound_trans (At a) High Low p q = cc
bound_trans (At a) High (At c) p q = cc
bound_trans (At a) High High p q = cc
bound_trans High Low c p q = cc
bound_trans High (At b) c p q = cc
bound_trans High High c p q = cc

-- a key below one that is under the end is under it
pub under_lower : (upto : Bound) (j k : List ℕ) → is_below j k ≡ true → is_under upto k ≡ true → is_under upto j ≡ true
under_lower Low j k below under = under
under_lower (At upto) j k below under = below_trans j k upto below under
under_lower High j k below under = refl

-- a key above one that isn't under the end isn't under it
pub not_under_higher : (upto : Bound) (j k : List ℕ) → is_below j k ≡ true → is_under upto j ≡ false → is_under upto k ≡ false
not_under_higher Low j k below over = refl
not_under_higher (At upto) j k below over = by (is_below k upto) refl
  where
    by : (t : Bool) → is_below k upto ≡ t → is_below k upto ≡ false
    by true e = absurd (false≢true (sym over ∙ below_trans j k upto below e))
    by false e = e
not_under_higher High j k below over = absurd (false≢true (sym over))

-- a key under an end is under each higher end
pub under_higher : (a b : Bound) (key : List ℕ) → bound_cmp a b ≡ Less → is_under a key ≡ true → is_under b key ≡ true
under_higher a b key rises under = under_is b key ∙ ap is_lt (bound_trans (At key) a b (less_from _ (sym (under_is a key) ∙ under)) rises)
