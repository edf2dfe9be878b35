-- Tables with one number are one table.
use Rattle.std.proofs.Common.{◌≡◌, ℕ, zero, suc, ◌<◌, List, [], ◌∷◌, refl, ap, arith}
use Rattle.atomic_table.specs.Seated.{TableId}
use Rattle.lane_facts.specs.Names.{paired, listed, parts_of, number_of, origin_of}

above_zero : (a b : ℕ) → 0 < paired a b
above_zero zero b = omega arith
above_zero (suc a) b = omega (arith, above_zero a b)

paired_apart : (a b c d : ℕ) → paired a b ≡ paired c d → (a ≡ c) × (b ≡ d)
paired_apart zero b zero d same = (refl, omega (arith, same))
paired_apart zero b (suc c) d same = absurd (omega (arith, same))
paired_apart (suc a) b zero d same = absurd (omega (arith, same))
paired_apart (suc a) b (suc c) d same = let rest = paired_apart a b c d (omega (arith, same)) in (ap suc rest.0, rest.1)

listed_apart : (xs ys : List ℕ) → listed xs ≡ listed ys → xs ≡ ys
listed_apart [] [] same = refl
listed_apart [] (y ∷ ys) same = absurd (omega (arith, same, above_zero y (listed ys)))
listed_apart (x ∷ xs) [] same = absurd (omega (arith, same, above_zero x (listed xs)))
listed_apart (x ∷ xs) (y ∷ ys) same =
    let both = paired_apart x (listed xs) y (listed ys) same in
    let rest = listed_apart xs ys both.1 in
    λ i. both.0 i ∷ rest i

pub number_apart : (t u : TableId) → number_of t ≡ number_of u → t ≡ u
number_apart t u same =
    let l = listed_apart (parts_of t) (parts_of u) same in
    let words : t.words ≡ u.words = cc in
    let slots : t.slots ≡ u.slots = cc in
    let views : t.views_name ≡ u.views_name = cc in
    let atom : t.atom ≡ u.atom = cc in
    let block : t.block ≡ u.block = cc in
    let offset : t.offset ≡ u.offset = cc in
    let names : t.slot_names ≡ u.slot_names = cc in
    λ i. record { words = words i; slots = slots i; views_name = views i; atom = atom i; block = block i; offset = offset i; slot_names = names i }

pub origin_apart : (lanes others : ℕ) (t u : TableId) → origin_of lanes t ≡ origin_of others u → (lanes ≡ others) × (t ≡ u)
origin_apart lanes others t u same =
    let both = paired_apart lanes (number_of t) others (number_of u) same in
    (both.0, number_apart t u both.1)
