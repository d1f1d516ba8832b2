-- The function deliver::deliver_link meets its contract.
use mathlib.Core.Path.{refl, subst}
use Prim.Native.Nat.{◌+◌, ◌*◌, ◌<◌, ◌≤◌}
use native.Mathlib.Omega.{arith}
use lib.ListN.{get_or}
use Rattle.layout.specs.Layout.{system_of}
use Rattle.layout.proofs.Stores.{Clearing, used_read}
use Rattle.election.specs.System.{no_station, places}
use Rattle.ticks.proofs.Hearing.{hearing-ready}
use Rattle.ticks.proofs.Taken.{taken-few, link-wide, link-taken, link-heard}
use Rattle.ticks.proofs.deliver.deliver_link.Goals as goal

pub hear_due-to-requires-clause-room : goal.hear_due-to-requires-clause-room
hear_due-to-requires-clause-room g c =
    let (d, (hq, (hp, some))) = c.requires in
    let q = c.args.q in
    let p = c.args.p in
    let hk : 8 * q + p < 64 = omega (arith, d.n-high, hq, hp) in
    (d.wide, omega (arith, taken-few g.r.n _ g.r _ _ p q d.n-high hp hq d.taken, used_read c.args.s.now (8 * q + p) hk))

pub hear_due-to-requires-clause-timeouts : goal.hear_due-to-requires-clause-timeouts
hear_due-to-requires-clause-timeouts g c =
    let (d, (hq, (hp, some))) = c.requires in
    let (early, more, one) = hearing-ready g.r g.r.n c.args.p c.args.q (system_of c.args.s.now) d.hearing d.taken.ticking hp refl hq (get_or c.args.s.now.stations c.args.p no_station) refl refl in
    (more, one)

pub clear-requires-clause-within : goal.clear-requires-clause-within
clear-requires-clause-within g c =
    let (d, (hq, (hp, some))) = c.requires in
    let q = c.args.q in
    let p = c.args.p in
    let hk : 8 * q + p < 64 = omega (arith, d.n-high, hq, hp) in
    (omega (arith, c.hear_due-to.ensures.read.packing.front, c.from-u.ensures), omega (arith, taken-few g.r.n _ g.r _ _ p q d.n-high hp hq d.taken, used_read c.args.s.now (8 * q + p) hk, c.from-u.ensures))

pub returns-clause-delivered : goal.returns-clause-delivered
returns-clause-delivered g c =
    let (d, (hq, (hp, some))) = c.requires in
    let n = g.r.n in
    let q = c.args.q in
    let p = c.args.p in
    let x = c.args.s.now in
    let k = 8 * q + p in
    let hk : k < 64 = omega (arith, d.n-high, hp, hq) in
    let u = get_or x.used k 0 in
    let few : u ≤ places = omega (arith, taken-few n _ g.r _ _ p q d.n-high hp hq d.taken, used_read x k hk) in
    let bound = c.hear_due-to.ensures.bound in
    let read = c.hear_due-to.ensures.read in
    let s₁ = c.hear_due-to.new.s in
    let s₂ = c.clear.new.s in
    let to = c.hear_due-to.result.0 in
    let clear = subst (Clearing k s₁ s₂ to) c.from-u.ensures c.clear.ensures in
    record {
      now-is = d.now-is;
      n-high = d.n-high;
      low = bound.0;
      high = omega (arith, bound.1, d.high);
      wide = link-wide n _ p q d.n-high hp hq x s₁ s₂ _ to u read.packing clear d.wide few refl _ refl;
      taken = link-taken n _ p q d.n-high hp hq x s₁ s₂ _ to u read.packing clear d.wide few refl _ refl some g.r _ d.taken _ refl bound.1;
      hearing = link-heard n _ p q d.n-high hp hq x s₁ s₂ _ to u read.packing clear d.wide few refl _ refl some g.r _ d.taken d.hearing d.now-is read.heard read.beside;
    }
