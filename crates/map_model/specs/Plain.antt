-- Which histories a plain map stands for.
use Rattle.std.specs.Prelude.{◌≡◌, ℕ, List, ◌∷◌, ◌++◌, ◌⊎◌, length}
use Rattle.std.specs.List.{AllByRecursion}
use Rattle.key_bytes.specs.declared.bound.Bound.{Bound}
use Rattle.key_bytes.specs.declared.bound.Bound.TheVariants.{At}
use Rattle.map_model.specs.declared.plain.TheConstants.{MOST_PAIRS}
use Rattle.map_model.specs.Maps.{Pairs, between}
use Rattle.map_model.specs.History.{Entry, after, IsLegal, IsNumbered}

-- a legal and numbered history of lane 0 alone, whose map this is
pub record IsHistoryOf (m : Pairs (List ℕ)) (h : List Entry) : Type 0 where
  pub legal : IsLegal h
  pub numbered : IsNumbered h
  pub lane : AllByRecursion (λ (e : Entry). e.lane ≡ 0) h
  pub map : after h ≡ m

-- the part stops at the key of the next pair of the range, full
pub record StopsAtNext (m : Pairs (List ℕ)) (from to upto : Bound) (pairs : Pairs (List ℕ)) : Type 0 where
  pub full : length pairs ≡ MOST_PAIRS
  pub key : List ℕ
  pub value : List ℕ
  pub rest : Pairs (List ℕ)
  pub range : between m from to ≡ pairs ++ (key, value) ∷ rest
  pub end : upto ≡ At key

-- the part goes to the end of the range, or stops
abbrev pub IsFirstPart : Pairs (List ℕ) → Bound → Bound → Bound → Pairs (List ℕ) → Type 0
IsFirstPart m from to upto pairs = (upto ≡ to) ⊎ StopsAtNext m from to upto pairs
