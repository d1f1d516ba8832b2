-- The function deliver::deliver meets its contract.
use mathlib.Core.Path.{◌≡◌, sym, ap, subst, ◌∙◌}
use mathlib.Core.List.{List}
use mathlib.Core.Bool.{true≢false}
use Prim.Native.Nat.{ℕ, ◌+◌, ◌*◌, ◌<◌, ◌≤◌}
use native.Mathlib.Omega.{arith}
use Rattle.layout.specs.Layout.{system_of}
use Rattle.layout.specs.declared.Layout.{Layout}
use Rattle.layout.proofs.Stores.{used_read}
use Rattle.ticks.specs.Delivering.{Silent, Gone, Taken}
use Rattle.ticks.proofs.Hearing.{hearing-row}
use Rattle.ticks.proofs.Silent.{silent-stores, silent-sets, gone-stores, gone-more}
use Rattle.ticks.proofs.Taken.{taken-row, taken-skips, none-heard}
use Rattle.ticks.proofs.deliver.deliver.Goals as goal
use Rattle.ticks.proofs.deliver.deliver.Goals.{then-s-k-ne0+then-s-k-ne0-2, then-s-k-ne0+else-s-k-ne0-2, else-s-k-ne0}

pub loop-p-preserved : goal.loop-p-preserved
loop-p-preserved g c =
    let n = g.r.n in
    let q = c.args.q in
    let hq : q < n = c.requires.1 in
    let i = c.loop-p.invariant in
    let p = c.loop-p.p in
    let d = i.2 in
    let hn : n ≤ 8 = d.n-high in
    let hp : p < n = omega (arith, i.1, c.loop-p-test.true) in
    let x = c.loop-p.s in
    let k = 8 * q + p in
    let hk : k < 64 = omega (arith, hn, hq, hp) in
    elim c.if-s-k-ne0.branch [
      | then-s-k-ne0+then-s-k-ne0-2 w ↦
          let used = w.deliver_link-until.ensures.used in (
            omega (arith, c.loop-p-test.true),
            i.1,
            rw (w.s-is, w.until-is) w.deliver_link-until.ensures.delivered,
            (λ e. absurd (true≢false (sym w.more-is ∙ e))),
            λ b e h. rw w.s-is (subst (λ (l : List ℕ). Silent n l b (8 * n)) (sym used) (silent-stores n x.used b (8 * n) hn (i.4 b e h) q p _ (omega (arith, hn, hp)) e)),
          )
      | then-s-k-ne0+else-s-k-ne0-2 w ↦
          let used = w.deliver_link-until.ensures.used in (
            omega (arith, c.loop-p-test.true),
            i.1,
            rw (w.s-is, w.until-is) w.deliver_link-until.ensures.delivered,
            subst (λ (z : Layout). Gone z.used q (p + 1) c.if-s-k-ne0.more) (sym w.s-is) (subst (λ (l : List ℕ). Gone l q (p + 1) c.if-s-k-ne0.more) (sym used) (gone-stores x.used q p _ _ _ d.wide.used hk i.3 (λ b. (sym w.more-is ∙ b, w.if-s-k-ne0-2.false)))),
            λ b e h. rw w.s-is (subst (λ (l : List ℕ). Silent n l b (8 * n)) (sym used) (silent-stores n x.used b (8 * n) hn (i.4 b e h) q p _ (omega (arith, hn, hp)) e)),
          )
      | else-s-k-ne0 w ↦
          let none = used_read x k hk ∙ w.if-s-k-ne0.false in (
            omega (arith, c.loop-p-test.true),
            i.1,
            rw (w.s-is, w.until-is)
                (record {
                  now-is = d.now-is;
                  n-high = hn;
                  low = d.low;
                  high = d.high;
                  wide = d.wide;
                  taken = taken-skips n _ g.r _ _ p q hn hp hq d.taken none;
                  hearing = none-heard n _ g.r _ x p q hn hp hq d.taken d.hearing none;
                }),
            subst (λ (z : Layout). Gone z.used q (p + 1) c.if-s-k-ne0.more) (sym w.s-is) (gone-more x.used q p _ _ i.3 (λ b. sym w.more-is ∙ b) (λ b. w.if-s-k-ne0.false)),
            λ b e h. rw w.s-is (i.4 b e h),
          )
    ]

pub returns-clause-delivered : goal.returns-clause-delivered
returns-clause-delivered g c =
    let i = c.loop-p.invariant in
    let d = i.2 in
    let z : c.loop-p.p ≡ g.r.n = omega (arith, i.0, i.1, c.loop-p-test.false) in
    let e : 8 * (c.args.q + 1) ≡ 8 * (c.args.q + 1) + 0 = omega arith in
    record {
      now-is = d.now-is;
      n-high = d.n-high;
      low = d.low;
      high = d.high;
      wide = d.wide;
      taken = subst (Taken g.r.n c.args.now g.r c.loop-p.until (system_of c.loop-p.s).links) e (taken-row g.r.n _ g.r _ _ _ d.taken c.args.q d.n-high (ap (λ (j : ℕ). 8 * c.args.q + j) z));
      hearing = hearing-row g.r g.r.n _ c.args.q _ d.hearing z;
    }

pub returns-clause-silent : goal.returns-clause-silent
returns-clause-silent g c b e h =
    let i = c.loop-p.invariant in
    let d = i.2 in
    let hq : c.args.q < g.r.n = c.requires.1 in
    let z : c.loop-p.p ≡ g.r.n = omega (arith, i.0, i.1, c.loop-p-test.false) in
    silent-sets g.r.n _ b _ d.n-high (i.4 b e h) c.args.q c.loop-p.more (omega (arith, d.n-high, hq)) (λ f j l. i.3 f j (omega (arith, z, l)))
