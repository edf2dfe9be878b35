use Rattle.std.proofs.Common.{suc, ◌≡◌, ◌+◌, ℕ, length, take, get_or, arith, sym, ap, ◌∙◌, subst, refl}
use Rattle.key_bytes.specs.Fnv.{fnv_start, fnv_step, prefix_hash}
use Rattle.key_bytes.proofs.Hashes.{prefix_hash-nil, prefix_hash-take}
use Rattle.meta_trie.specs.Shrinks.{Shrinking}
use Rattle.meta_trie.proofs.shrinks.shrink.Goals as goal

pub loop-n-init : goal.loop-n-init
loop-n-init g c = record {
  hash = c.start-hash.ensures ∙ ap fnv_start c.salt.ensures ∙ sym (prefix_hash-nil _);
  state = c.requires;
  shrunk = λ A leaf lo hi shrinks s. s;
  rest = record { rows = λ x l. refl; longest = refl; live = refl };
  shape = refl;
  stays = g.met.R.Rows.stays_refl _;
}

pub loop-n-preserved : goal.loop-n-preserved
loop-n-preserved g c =
    let st = c.loop-n.invariant.state in
    let q = st.1.1.1.1 in
    let shrunk = rw c.loop-n.invariant.shape at c.shrink_item.ensures.shrunk in
    let rest = rw c.loop-n.invariant.shape at c.shrink_item.ensures.rest in
    let more : suc c.loop-n.n ≡ c.loop-n.n + 1 = omega arith in
    let salt : ℕ = (g.R.Rows.shape c.args.rows.now).salt in
    record {
      hash = c.step-hash.ensures ∙ ap (λ (h : ℕ). fnv_step h (get_or c.args.anchor.now c.loop-n.n 0)) c.loop-n.invariant.hash ∙ sym (prefix_hash-take salt c.loop-n.n c.args.anchor.now 0 c.loop-n-test.true) ∙ ap (λ (m : ℕ). prefix_hash salt (take m c.args.anchor.now)) more;
      state = (st.0, (st.1.0, (st.1.1.0, (st.1.1.1.0, (q.0, shrunk st.0 st.1.0 st.1.1.0 st.1.1.1.0 q.0 q.1)))));
      shrunk = λ A leaf lo hi shrinks s. shrunk A leaf lo hi shrinks (c.loop-n.invariant.shrunk A leaf lo hi shrinks s);
      rest = record { rows = λ x l. rest.rows x l ∙ c.loop-n.invariant.rest.rows x l; longest = rest.longest ∙ c.loop-n.invariant.rest.longest; live = rest.live ∙ c.loop-n.invariant.rest.live };
      shape = c.shrink_item.ensures.shape ∙ c.loop-n.invariant.shape;
      stays = g.met.R.Rows.stays_trans _ _ _ c.loop-n.invariant.stays c.shrink_item.ensures.stays;
    }

pub returns-clause-shrunk : goal.returns-clause-shrunk
returns-clause-shrunk g c = λ A leaf lo hi shrinks s.
    let shrunk = rw c.loop-n.invariant.shape at c.shrink_item-2.ensures.shrunk in
    let end : c.loop-n.n ≡ length c.args.anchor.now = omega (arith, c.loop-n.auto.n-end, c.loop-n-test.false) in
    shrunk A leaf lo hi shrinks (subst (λ (m : ℕ). Shrinking (g.R.Rows.shape c.args.rows.now) (g.R.Rows.words c.loop-n.rows) A leaf lo c.args.anchor.now hi m) end (c.loop-n.invariant.shrunk A leaf lo hi shrinks s))

pub returns-clause-rest : goal.returns-clause-rest
returns-clause-rest g c =
    let rest = rw c.loop-n.invariant.shape at c.shrink_item-2.ensures.rest in
    record { rows = λ x l. rest.rows x l ∙ c.loop-n.invariant.rest.rows x l; longest = rest.longest ∙ c.loop-n.invariant.rest.longest; live = rest.live ∙ c.loop-n.invariant.rest.live }

pub returns-clause-stays : goal.returns-clause-stays
returns-clause-stays g c = g.met.R.Rows.stays_trans _ _ _ c.loop-n.invariant.stays c.shrink_item-2.ensures.stays
