use Rattle.std.proofs.Common.{arith, ◌≡◌, ℕ, ◌<◌, ◌∷◌, [], subst, ◌∙◌}
use Rattle.std.specs.List.{All}
use Rattle.std.specs.List.Sorted.{IsPermutation}
use Rattle.std.proofs.lemmas.List.Elements.{All-nil, All-cons, All-contains}
use Rattle.std.proofs.lemmas.List.Sorted.{All-permutation}
use Rattle.base_tests.proofs.tags.is_renumbered.Goals as goal

pub renumber-requires : goal.renumber-requires
renumber-requires c = λ tag place there.
    let few : ℕ × ℕ → Type 0 = λ p. p.1 < 2 in
    let none : c.reserve_many.new.self.pairs ≡ [] = c.reserve_many.ensures.pairs ∙ c.new-tags.ensures in
    let first : All few c.add.new.self.pairs = All-permutation few ((7, 0) ∷ []) c.add.new.self.pairs (subst (λ ps. IsPermutation ((7, 0) ∷ ps) c.add.new.self.pairs) none c.add.ensures.pairs) (All-cons few (7, 0) [] (omega arith) (All-nil few)) in
    let both : All few c.add-2.new.self.pairs = All-permutation few ((40000, 1) ∷ c.add.new.self.pairs) c.add-2.new.self.pairs c.add-2.ensures.pairs (All-cons few (40000, 1) c.add.new.self.pairs (omega arith) first) in
    All-contains few c.add-2.new.self.pairs (tag, place) both there
