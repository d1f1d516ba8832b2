-- The function chance::send meets its contract.
use mathlib.Core.Path.{◌≡◌, refl, sym, ap, subst, ◌∙◌}
use mathlib.Core.Bool.{true, false}
use Prim.Native.Nat.{ℕ, ◌+◌, ◌*◌, ◌<◌, ◌≤◌}
use native.Mathlib.Omega.{arith}
use lib.ListN.{set, get_or, length-set}
use lib.Seq.{get_or-set_same}
use Rattle.station.specs.Limits.{last_tick}
use Rattle.station.specs.declared.Station.{Station}
use Rattle.clock.specs.Rules.{carried}
use Rattle.layout.specs.declared.Layout.{Layout}
use Rattle.layout.proofs.Stores.{Wide}
use Rattle.ticks.specs.Chances.{Chances}
use Rattle.ticks.specs.Delivering.{Silent}
use Rattle.ticks.proofs.After.{part_n}
use Rattle.ticks.proofs.Chances.{chances_station, chances_skips, chances_free, chances_sends, turn_sends}
use Rattle.ticks.proofs.Counted.{chances_counted}
use Rattle.ticks.proofs.Indices.{Place, ends_of, place-low, used_more_fits, at_least, at_most}
use Rattle.ticks.proofs.Silent.{silent-sends, silent-stores}
use Rattle.ticks.proofs.chance.send.Goals as goal
use Rattle.ticks.proofs.chance.send.Given.{Over}
use Rattle.ticks.proofs.chance.send.Goals.{then-goes, else-goes, After-from-u}

pub loop-q-init : goal.loop-q-init
loop-q-init g c =
    let (hp, (low, (sends, t))) = c.requires in
    let p = c.args.p in
    let n-high : g.heard.n ≤ 8 = t.chances.part.mid.n-high in
    let e : 8 * p ≡ 8 * p + 0 = omega arith in (
      omega arith,
      part_n _ _ _ _ _ _ _ _ t.chances.part,
      low,
      get_or-set_same c.args.busy.now p true false (omega (arith, hp, n-high, t.silent.long)),
      record {
        high = t.high;
        wide = t.wide;
        silent = silent-sends g.heard.n _ _ _ n-high t.silent p (omega (arith, hp, n-high));
        chances = subst (Chances g.heard.n c.args.now g.heard c.args.until c.args.s.now (p + 1) p p) e t.chances;
      },
    )

pub bounds-s-k : goal.bounds-s-k
bounds-s-k g c =
    let i = c.loop-q.invariant in
    omega (arith, c.requires.0, i.1, c.loop-q-test.true, i.4.chances.part.mid.n-high)

-- the link that it sends over has a place
free-place : (g : Over) (c : After-from-u g) → Place c.args.p c.loop-q.q c.from-u.result
free-place g c =
    let (hp, (low, (sends, t))) = c.requires in
    let n = g.heard.n in
    let p = c.args.p in
    let q = c.loop-q.q in
    let i = c.loop-q.invariant in
    let a = i.4 in
    let hq : q < n = omega (arith, i.1, c.loop-q-test.true) in
    let st = chances_station n c.args.now g.heard _ _ p p _ t.chances hp in
    record {
      ends = ends_of _ _ _ a.chances.part.mid.n-high hp hq;
      low = chances_free n c.args.now g.heard _ _ p hp q hq a.chances _ c.from-d.ensures a.wide (sym c.goes.ensures ∙ c.if-goes.true) sends _ (ap (λ (z : Station). z.recovered) st) _ (c.carried-stamp.ensures ∙ ap carried st) _ c.from-u.ensures;
    }

pub bounds-s-k-then-goes-2 : goal.bounds-s-k-then-goes-2
bounds-s-k-then-goes-2 g c = place-low (free-place g c)

pub overflow_add-s : goal.overflow_add-s
overflow_add-s g c = used_more_fits _ _ c.from-u.ensures (free-place g (goal.at.overflow_add-s g c).After-from-u).low

pub short_of-until-requires : goal.short_of-until-requires
short_of-until-requires g c = c.loop-q.invariant.2

pub loop-q-preserved : goal.loop-q-preserved
loop-q-preserved g c =
    let (hp, (low, (sends, t))) = c.requires in
    let n = g.heard.n in
    let now = c.args.now in
    let p = c.args.p in
    let x = c.loop-q.s in
    let until = c.loop-q.until in
    let q = c.loop-q.q in
    let i = c.loop-q.invariant in
    let a = i.4 in
    let hn : n ≤ 8 = a.chances.part.mid.n-high in
    let k = 8 * p + q in
    let hq : q < n = omega (arith, i.1, c.loop-q-test.true) in
    let d = c.from-d.result in
    let ed : d ≡ get_or x.delays k 0 = c.from-d.ensures in
    let st = chances_station n now g.heard _ _ p p _ t.chances hp in
    let busy = set c.args.busy.now p true in
    elim c.if-goes.branch [
      | then-goes w ↦ (
        omega (arith, c.loop-q-test.true),
        i.1,
        at_least _ _ _ w.until-is w.short_of-until.ensures.0,
        i.3,
        record {
          high = at_most _ _ _ _ w.until-is w.short_of-until.ensures.1 a.high;
          wide = subst Wide (sym w.s-is) (record { used = length-set x.used k _ ∙ a.wide.used; messages = length-set x.messages _ _ ∙ a.wide.messages });
          silent = subst (λ (z : Layout). Silent n z.used busy (8 * n)) (sym w.s-is) (silent-stores n x.used busy (8 * n) hn a.silent p q _ (omega (arith, hn, hq)) i.3);
          chances =
              chances_sends n now g.heard until x p hp q hq a.chances d ed a.wide (sym c.goes.ensures ∙ w.if-goes.true) sends _ (ap (λ (z : Station). z.recovered) st) _ (c.carried-stamp.ensures ∙ ap carried st)
              _ w.from-u.ensures _ _ _ _ (ap (λ (j : ℕ). j + 1) (sym w.from-u.ensures)) w.s-is w.until-is w.short_of-until.ensures.1 w.short_of-until.ensures.2;
        },
      )
      | else-goes w ↦ (
        omega (arith, c.loop-q-test.true),
        i.1,
        at_least _ _ _ w.until-is i.2,
        i.3,
        rw (w.s-is, w.until-is)
            (record {
              high = a.high;
              wide = a.wide;
              silent = a.silent;
              chances = chances_skips n now g.heard until x p hp q hq a.chances d ed (sym c.goes.ensures ∙ w.if-goes.false);
            }),
      )
    ]

pub sent_more-requires : goal.sent_more-requires
sent_more-requires g c = chances_counted _ _ _ _ _ c.args.p _ c.loop-q.invariant.4.chances c.requires.0

pub returns-clause-bound : goal.returns-clause-bound
returns-clause-bound g c = c.loop-q.invariant.2

pub returns-clause-turn : goal.returns-clause-turn
returns-clause-turn g c =
    let (hp, (low, (sends, t))) = c.requires in
    let i = c.loop-q.invariant in
    let a = i.4 in
    let z : c.loop-q.q ≡ g.heard.n = omega (arith, i.0, i.1, c.loop-q-test.false) in
    turn_sends g.heard.n c.args.now g.heard last_tick c.loop-q.until c.loop-q.s _ c.args.p hp a.chances.part.mid.n-high c.loop-q.q z a sends _ _ _ _ c.sent_more.ensures refl refl refl
