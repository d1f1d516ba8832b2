-- The function chance::chance meets its contract.
use mathlib.Core.Path.{◌≡◌, refl, sym, ap, subst, ◌∙◌}
use Prim.Native.Nat.{◌+◌, ◌*◌, ◌≤◌}
use lib.ListN.{get_or}
use Rattle.station.specs.Limits.{last_tick, longest}
use Rattle.station.specs.declared.Station.{Station}
use Rattle.election.specs.System.{no_station}
use Rattle.ticks.specs.Chances.{Turn}
use Rattle.ticks.proofs.ByKind.{slotted-clock, slotted-flash}
use Rattle.ticks.proofs.Chances.{chances_station, chances_says, chances_late, chances_period, turn_rests, turn_slots, turn_waits}
use Rattle.ticks.proofs.chance.chance.Goals as goal
use Rattle.ticks.proofs.chance.chance.Given.{Over}
use Rattle.ticks.proofs.chance.chance.Goals.{then-sends_now, else-sends_now, Joined-sends_now, then-s-p+then-s, then-s-p+else-s, else-s-p}

pub send-until-requires : goal.send-until-requires
send-until-requires g c =
    let (hp, (low, t)) = c.requires in
    (hp, (low, (sym (chances_says g.heard.n c.args.now g.heard _ _ c.args.p c.args.p _ t.chances hp _ c.sends_now.ensures) ∙ c.if-sends_now.true, t)))

-- it has sent, or it does not send
rowed : (g : Over) (c : Joined-sends_now g) → Turn g.heard.n c.args.now g.heard last_tick c.if-sends_now.until c.if-sends_now.s c.if-sends_now.busy (c.args.p + 1) c.args.p (c.args.p + 1) (8 * (c.args.p + 1))
rowed g c =
    let (hp, (low, t)) = c.requires in
    let says = chances_says g.heard.n c.args.now g.heard _ _ c.args.p c.args.p _ t.chances hp _ c.sends_now.ensures in
    elim c.if-sends_now.branch [
      | then-sends_now w ↦ rw (w.s-is, w.busy-is, w.until-is) w.send-until.ensures.turn
      | else-sends_now w ↦ turn_rests g.heard.n c.args.now g.heard last_tick _ _ _ c.args.p hp t.chances.part.mid.n-high t (sym says ∙ w.if-sends_now.false) _ _ _ w.s-is w.busy-is w.until-is
    ]

-- what a send chance is given
slot_safe : (g : Over) (c : Joined-sends_now g) → (get_or c.args.s.now.stations c.args.p no_station).slot ≡ c.args.now → (c.if-sends_now.s.period ≤ 255) × (c.args.now ≤ last_tick) × ((get_or c.if-sends_now.s.stations c.args.p no_station).timeout ≤ longest last_tick)
slot_safe g c slot =
    let (hp, (low, t)) = c.requires in
    let row = (rowed g c).chances in
    let due = ap (λ (x : Station). x.slot) (sym (chances_station _ _ _ _ _ _ _ _ t.chances hp)) ∙ slot in
    (rw (chances_period _ _ _ _ _ _ _ _ row hp) row.part.mid.period-high, row.part.mid.early, subst (λ (x : Station). x.timeout ≤ longest last_tick) (sym (chances_station _ _ _ _ _ _ _ _ row hp)) (row.part.mid.safe _ hp due))

pub slot-requires : goal.slot-requires
slot-requires g c = slot_safe g (goal.at.slot-requires g c).Joined-sends_now c.if-s-p.true

pub slot-requires-else-s : goal.slot-requires-else-s
slot-requires-else-s g c = let (short, early, one) = slot_safe g (goal.at.slot-requires-else-s g c).Joined-sends_now c.if-s-p.true in (short, early)

pub returns-clause-turn : goal.returns-clause-turn
returns-clause-turn g c =
    let (hp, (low, t)) = c.requires in
    let n = g.heard.n in
    let now = c.args.now in
    let p = c.args.p in
    let hn : n ≤ 8 = t.chances.part.mid.n-high in
    let st = chances_station n now g.heard _ _ p p _ t.chances hp in
    let quiet = c.quiet_station.ensures in
    elim c.if-s-p.branch [
      | then-s-p+then-s w ↦
          let z = w.if-sends_now in
          let says = chances_says n now g.heard _ _ p p _ t.chances hp _ w.sends_now.ensures in
          let row : Turn n now g.heard last_tick z.until z.s z.busy (p + 1) p (p + 1) (8 * (p + 1)) =
          elim z.branch [
            | then-sends_now v ↦ rw (v.s-is, v.busy-is, v.until-is) v.send-until.ensures.turn
            | else-sends_now v ↦ turn_rests n now g.heard last_tick _ _ _ p hp hn t (sym says ∙ v.if-sends_now.false) _ _ _ v.s-is v.busy-is v.until-is
          ] in
          turn_slots n now g.heard last_tick z.until z.s z.busy p hp hn _ _ row _ _ _ _ w.until-is quiet.1 w.busy-is quiet.2 _ _ st w.if-s-p.true (slotted-clock z.s _ _ _ _ w.if-s.true w.slot.ensures) w.s-is
      | then-s-p+else-s w ↦
          let z = w.if-sends_now in
          let says = chances_says n now g.heard _ _ p p _ t.chances hp _ w.sends_now.ensures in
          let row : Turn n now g.heard last_tick z.until z.s z.busy (p + 1) p (p + 1) (8 * (p + 1)) =
          elim z.branch [
            | then-sends_now v ↦ rw (v.s-is, v.busy-is, v.until-is) v.send-until.ensures.turn
            | else-sends_now v ↦ turn_rests n now g.heard last_tick _ _ _ p hp hn t (sym says ∙ v.if-sends_now.false) _ _ _ v.s-is v.busy-is v.until-is
          ] in
          turn_slots n now g.heard last_tick z.until z.s z.busy p hp hn _ _ row _ _ _ _ w.until-is quiet.1 w.busy-is quiet.2 _ _ st w.if-s-p.true (slotted-flash z.s _ _ _ _ w.if-s.false w.slot-else-s.ensures) w.s-is
      | else-s-p w ↦
          let row = turn_rests n now g.heard last_tick _ _ _ p hp hn t (chances_late n now g.heard _ _ p p _ t.chances hp w.if-s-p.false) _ _ _ refl refl refl in
          turn_waits n now g.heard last_tick _ _ _ p hp hn _ _ row _ _ _ _ w.until-is quiet.1 w.busy-is quiet.2 w.if-s-p.false w.s-is
    ]
