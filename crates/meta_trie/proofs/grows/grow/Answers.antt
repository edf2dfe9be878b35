use Rattle.std.proofs.Common.{suc, ◌≡◌, ◌+◌, ℕ, length, take, get_or, arith, sym, ap, ◌∙◌, subst, refl}
use Rattle.key_bytes.specs.Fnv.{fnv_start, fnv_step, prefix_hash}
use Rattle.key_bytes.proofs.Hashes.{prefix_hash-nil, prefix_hash-take}
use Rattle.meta_trie.specs.Grows.{Growing}
use Rattle.meta_trie.proofs.grows.grow.Goals as goal

pub loop-n-init : goal.loop-n-init
loop-n-init g c = record {
  hash = c.start-hash.ensures ∙ ap fnv_start c.salt.ensures ∙ sym (prefix_hash-nil _);
  state = c.requires;
  grown = λ A left lo hi grows front back s. s;
  rest = record { rows = λ x l. refl; longest = refl; live = refl };
  shape = refl;
  stays = g.met.R.Rows.stays_refl _;
}

pub loop-n-preserved : goal.loop-n-preserved
loop-n-preserved g c =
    let st = c.loop-n.invariant.state in
    let q = st.1.1.1.1 in
    let grown = rw c.loop-n.invariant.shape at c.grow_item.ensures.grown in
    let rest = rw c.loop-n.invariant.shape at c.grow_item.ensures.rest in
    let more : suc c.loop-n.n ≡ c.loop-n.n + 1 = omega arith in
    let salt : ℕ = (g.R.Rows.shape c.args.rows.now).salt in
    record {
      hash = c.step-hash.ensures ∙ ap (λ (h : ℕ). fnv_step h (get_or c.args.anchor.now c.loop-n.n 0)) c.loop-n.invariant.hash ∙ sym (prefix_hash-take salt c.loop-n.n c.args.anchor.now 0 c.loop-n-test.true) ∙ ap (λ (m : ℕ). prefix_hash salt (take m c.args.anchor.now)) more;
      state = (st.0, (st.1.0, (st.1.1.0, (st.1.1.1.0, (q.0, q.1, q.2, grown st.0 st.1.0 st.1.1.0 st.1.1.1.0 q.0 q.1 q.2 q.3)))));
      grown = λ A left lo hi grows front back s. grown A left lo hi grows front back (c.loop-n.invariant.grown A left lo hi grows front back s);
      rest = record { rows = λ x l. rest.rows x l ∙ c.loop-n.invariant.rest.rows x l; longest = rest.longest ∙ c.loop-n.invariant.rest.longest; live = rest.live ∙ c.loop-n.invariant.rest.live };
      shape = c.grow_item.ensures.shape ∙ c.loop-n.invariant.shape;
      stays = g.met.R.Rows.stays_trans _ _ _ c.loop-n.invariant.stays c.grow_item.ensures.stays;
    }

pub returns-clause-grown : goal.returns-clause-grown
returns-clause-grown g c = λ A left lo hi grows front back s.
    let grown = rw c.loop-n.invariant.shape at c.grow_item-2.ensures.grown in
    let end : c.loop-n.n ≡ length c.args.anchor.now = omega (arith, c.loop-n.auto.n-end, c.loop-n-test.false) in
    grown A left lo hi grows front back (subst (λ (m : ℕ). Growing (g.R.Rows.shape c.args.rows.now) (g.R.Rows.words c.loop-n.rows) A left lo hi c.args.anchor.now c.args.leaf m) end (c.loop-n.invariant.grown A left lo hi grows front back s))

pub returns-clause-rest : goal.returns-clause-rest
returns-clause-rest g c =
    let rest = rw c.loop-n.invariant.shape at c.grow_item-2.ensures.rest in
    record { rows = λ x l. rest.rows x l ∙ c.loop-n.invariant.rest.rows x l; longest = rest.longest ∙ c.loop-n.invariant.rest.longest; live = rest.live ∙ c.loop-n.invariant.rest.live }

pub returns-clause-stays : goal.returns-clause-stays
returns-clause-stays g c = g.met.R.Rows.stays_trans _ _ _ c.loop-n.invariant.stays c.grow_item-2.ensures.stays
