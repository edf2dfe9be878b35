use Rattle.std.proofs.Common.{◌≡◌, ℕ, List, sym, ◌∙◌, subst}
use Rattle.key_bytes.specs.declared.bound.Bound.TheVariants.{At}
use Rattle.prefix_search.specs.Search.{IsLocated}
use Rattle.prefix_search.proofs.Firsts.{first_target, first_span}
use Rattle.prefix_search.proofs.ends.locate_end.Goals as goal

same_key : (a b : List ℕ) → At a ≡ At b → a ≡ b
same_key a b e = cc

pub returns-in-At-clause-key : goal.returns-in-At-clause-key
returns-in-At-clause-key g c = λ key at A s. subst (λ (k : List ℕ). IsLocated A k c.locate.result) (same_key _ key (sym c.in-At.is ∙ at)) (c.locate.ensures.located A s)

pub at_leaf-requires : goal.at_leaf-requires
at_leaf-requires g c = record { table = c.requires; leaf = λ A s. first_span A s.anchors s.zero }

pub returns-in_default : goal.returns-in_default
returns-in_default g c = record {
  key = λ key at. absurd (c.in_default.not-At key at);
  first = λ none A s. record { leaf = c.at_leaf.ensures.leaf ∙ sym (first_target A s.anchors s.zero); next = rw c.at_leaf.ensures.leaf (c.at_leaf.ensures.next A s) };
  key_cost = λ key at. absurd (c.in_default.not-At key at);
  first_cost = λ none. c.at_leaf.ensures.cost;
  counted = c.at_leaf.ensures.counted;
  words = c.at_leaf.ensures.words;
  shape = c.at_leaf.ensures.shape;
  stays = c.at_leaf.ensures.stays;
}
