-- The pairs of leaves in a list of leaves, of which one is written.
use Rattle.std.proofs.Common.{◌≡◌, ◌≢◌, ℕ, zero, suc, ◌+◌, ◌<◌, List, [], ◌∷◌, ◌++◌, length, get_or, take, refl, ap, arith}
use Rattle.std.proofs.lemmas.List.{get_or-set_same, get_or-set_other}
use Rattle.std.proofs.lemmas.List.Elements.{All-get_or, All-set, All-push}
use Rattle.std.specs.Prelude.{slice_set}
use native.Mathlib.Numerals.{unary_clauses}
use Rattle.leaf_store.specs.Leaf.{LeafMap}
use Rattle.leaf_table.specs.Leaves.{no_leaf, map_at, HaveSalt}

-- the leaf that was written
pub map_written : (leaves : List (LeafMap (List ℕ))) (leaf : ℕ) (l : LeafMap (List ℕ)) → leaf < length leaves → map_at (slice_set leaves leaf l) leaf ≡ l.map
map_written leaves leaf l lt = ap (λ (x : LeafMap (List ℕ)). x.map) (get_or-set_same leaves leaf l no_leaf lt)

-- and all others
pub map_unwritten : (leaves : List (LeafMap (List ℕ))) (leaf : ℕ) (l : LeafMap (List ℕ)) (other : ℕ) → other ≢ leaf → map_at (slice_set leaves leaf l) other ≡ map_at leaves other
map_unwritten leaves leaf l other ne = ap (λ (x : LeafMap (List ℕ)). x.map) (get_or-set_other leaves leaf other l no_leaf ne)

-- one more empty leaf
pub empty_push : (leaves : List (LeafMap (List ℕ))) (l : LeafMap (List ℕ)) → l.map ≡ [] → ((leaf : ℕ) → map_at leaves leaf ≡ []) → (leaf : ℕ) → map_at (leaves ++ l ∷ []) leaf ≡ []
empty_push [] l e all zero = e
empty_push [] l e all (suc n) = refl
empty_push (x ∷ leaves) l e all zero = all zero
empty_push (x ∷ leaves) l e all (suc n) = empty_push leaves l e (λ m. all (suc m)) n

-- a leaf that is read in its range is the same with any default
pub map_read : (leaves : List (LeafMap (List ℕ))) (leaf : ℕ) (d : LeafMap (List ℕ)) → leaf < length leaves → (get_or leaves leaf d).map ≡ map_at leaves leaf
map_read [] leaf d lt = absurd (omega (arith, lt))
map_read (x ∷ leaves) zero d lt = refl
map_read (x ∷ leaves) (suc n) d lt = map_read leaves n d (omega (arith, lt))

-- a leaf that is read in its range has the salt of all
pub salt_read : (leaves : List (LeafMap (List ℕ))) (salt leaf : ℕ) (d : LeafMap (List ℕ)) → HaveSalt leaves salt → leaf < length leaves → (get_or leaves leaf d).salt ≡ salt
salt_read leaves salt leaf d all lt = All-get_or (λ (l : LeafMap (List ℕ)). l.salt ≡ salt) leaves leaf d lt all

-- and the leaf that was written, if it has it
pub salt_written : (leaves : List (LeafMap (List ℕ))) (salt leaf : ℕ) (l : LeafMap (List ℕ)) → HaveSalt leaves salt → l.salt ≡ salt → HaveSalt (slice_set leaves leaf l) salt
salt_written leaves salt leaf l all e = All-set (λ (x : LeafMap (List ℕ)). x.salt ≡ salt) leaves leaf l e all

-- one more leaf
pub salt_push : (leaves : List (LeafMap (List ℕ))) (salt : ℕ) (l : LeafMap (List ℕ)) → HaveSalt leaves salt → l.salt ≡ salt → HaveSalt (leaves ++ l ∷ []) salt
salt_push leaves salt l all e = All-push (λ (x : LeafMap (List ℕ)). x.salt ≡ salt) leaves l all e
