-- The function deliver::hear meets its contract.
use mathlib.Core.Path.{◌≡◌, refl, subst, ◌∙◌}
use Prim.Native.Nat.{ℕ, ◌+◌, ◌*◌, ◌<◌, ◌≤◌}
use native.Mathlib.Omega.{arith}
use lib.ListN.{get_or}
use Rattle.layout.specs.Layout.{system_of}
use Rattle.layout.proofs.Stores.{used_read}
use Rattle.election.specs.System.{no_link}
use Rattle.ticks.specs.Delivering.{Delivered, Taken}
use Rattle.ticks.proofs.Hearing.{hearing-rests}
use Rattle.ticks.proofs.Taken.{taken-rests, none_before}
use Rattle.ticks.proofs.deliver.hear.Goals as goal
use Rattle.ticks.proofs.deliver.hear.Goals.{then-busy-q, else-busy-q}

pub loop-q-preserved : goal.loop-q-preserved
loop-q-preserved g c =
    let n = g.r.n in
    let i = c.loop-q.invariant in
    let q = c.loop-q.q in
    let d = i.2 in
    let hn : n ≤ 8 = d.n-high in
    let hq : q < n = omega (arith, i.1, c.loop-q-test.true) in
    let y = c.loop-q.s in
    let z : 8 * q + 0 ≡ 8 * q = omega arith in
    let e : 8 * (q + 1) ≡ 8 * (q + 1) + 0 = omega arith in
    elim c.if-busy-q.branch [
      | then-busy-q w ↦ (
        omega (arith, c.loop-q-test.true),
        i.1,
        rw (w.s-is, w.until-is) w.deliver-more.ensures.delivered,
        rw (w.s-is, w.busy-is) (w.deliver-more.ensures.silent c.loop-q.busy w.if-busy-q.true i.3),
      )
      | else-busy-q w ↦
          let none : (p : ℕ) → p < n → (get_or (system_of y).links (8 * q + p) no_link).used ≡ 0 = λ p h. used_read y (8 * q + p) (omega (arith, hn, hq, h)) ∙ i.3.none q p hq h (omega (arith, hq, h, hn)) w.if-busy-q.false in (
            omega (arith, c.loop-q-test.true),
            i.1,
            rw (w.s-is, w.until-is)
                (record {
                  now-is = d.now-is;
                  n-high = hn;
                  low = d.low;
                  high = d.high;
                  wide = d.wide;
                  taken = subst (Taken n c.args.now g.r c.loop-q.until (system_of y).links) e (taken-rests n _ g.r _ _ _ d.taken q hn hq z none);
                  hearing = hearing-rests g.r n 0 q _ d.hearing refl (none_before n _ g.r _ _ _ d.taken q hn hq z none);
                }),
            rw (w.s-is, w.busy-is) i.3,
          )
    ]

pub returns-clause-delivered : goal.returns-clause-delivered
returns-clause-delivered g c =
    let i = c.loop-q.invariant in
    let z : c.loop-q.q ≡ g.r.n = omega (arith, i.0, i.1, c.loop-q-test.false) in
    subst (λ (j : ℕ). Delivered g.r c.args.now c.loop-q.until c.loop-q.s j 0) z i.2
