-- G. The count of divided ticks along the entries of a stretch with steady heads.
use mathlib.Core.Path.{◌≡◌, refl, sym, ap, ◌∙◌}
use mathlib.Core.Logic.{◌≢◌}
use mathlib.Core.Bool.{Bool, true, false, cond, not, true≢false}
use mathlib.Core.List.{List, [], ◌∷◌, ◌++◌}
use Prim.Native.Nat.{ℕ, zero, suc, ◌+◌, ◌≤◌, zero-le}
use native.Mathlib.Omega.{arith}
use borrow.Author.Tests.{eqb-true}
use Rattle.lists.specs.Every.{All}
use Rattle.lists.specs.Test.{all_to}
use Rattle.lists.proofs.Bools.{false_unless}
use Rattle.lists.proofs.Every.{all_left, all_right}
use Rattle.station.specs.Rules.{crashed}
use Rattle.station.specs.declared.Station.{Station}
use Rattle.station.proofs.Fields.{crashed-up}
use Rattle.election.specs.Commands.{Command, SetUp, Start, Crash, Link, Run, Lose, Report, Rank, decode, perform}
use Rattle.election.specs.Heads.{starting}
use Rattle.election.specs.History.{accepted, after}
use Rattle.election.specs.System.{with_station, station, delay}
use Rattle.election.specs.Tick.{tick, ticks}
use Rattle.election.specs.declared.System.{System}
use Rattle.election.proofs.Accepting.{Accepts, accepts, ruling-tests}
use Rattle.election.proofs.Changes.{changed_same}
use Rattle.election.proofs.Followed.{after-yes, after-no}
use Rattle.election.proofs.Places.{In, tick-tick}
use Rattle.election.proofs.Ranks.{nobody_up}
use Rattle.settling.specs.Settling.{moments, ticks_of, befores, Each}
use Rattle.settling.specs.Steady.{with_entry, Throughout, AllUp, OthersMoreNow, divided_among, divided_ticks_among, LosesNoneAmong, SentAmong}
use Rattle.settling.proofs.A2Reached.{Reached}
use Rattle.settling.proofs.A3Reaching.{start-reached, crash-reached}
use Rattle.settling.proofs.A4Moments.{GivenBy, given-told, given-after, at_once, after-flash, n_kept}
use Rattle.settling.proofs.BCalm.{Stretch}
use Rattle.settling.proofs.E3Invariant.{Inv, Fine, in_s}
use Rattle.settling.proofs.G1Sums.{failed}
use Rattle.settling.proofs.G2Counting.{agrees, split, Budget, pay_tick}
use Rattle.settling.proofs.G3Begins.{StillSteady, still_steady}
use Rattle.settling.proofs.G4Changes.{leaves_budget, delay-leaves, lose-leaves, change_leaves}

-- a tick counts as divided if some steady head doesn't trust L
split_divided : (K : Stretch) (x : System) → x.n ≡ K.n → cond (divided_among K.steady K.L x) 1 0 ≡ split K x
split_divided K x e = rw e (turn (all_to K.n (agrees K x)))
  where
    turn : (b : Bool) → cond (not b) 1 0 ≡ failed b
    turn true = refl
    turn false = refl

-- what is asked of the messages sent, as the invariant asks it
fine : (K : Stretch) (x : System) → Inv K x → SentAmong K.steady (λ y. y ≢ 0) x → SentAmong K.steady (λ y. y ≤ K.d) x → Fine K x
unfolding Fine
fine K x h cut short p q ip iq ne Sp Sq e =
    let jp : In x.n p = in_s K x h p ip in
    let jq : In x.n q = in_s K x h q iq in
    let c : delay x p q ≢ 0 = cut p q jp.low jp.high jq.low jq.high ne Sp Sq e in
    (omega arith, short p q jp.low jp.high jq.low jq.high ne Sp Sq e)

-- what is left after an entry, and what it took
record Paid (K : Stretch) (N : ℕ) (cost : ℕ) (x : System) : Type 0 where
  left : ℕ
  budget : Budget K left x
  paid : cost + left ≤ N

free : (K : Stretch) (N : ℕ) (x : System) → Budget K N x → Paid K N 0 x
free K N x b = record { left = N; budget = b; paid = omega arith }

pay_run : (K : Stretch) (N t : ℕ) (x : System) → x.tick + t ≤ 1000000 → All (SentAmong K.steady (λ y. y ≢ 0)) (moments t x) → All (SentAmong K.steady (λ y. y ≤ K.d)) (moments t x)
    → Budget K N x → Paid K N (divided_ticks_among K.steady K.L (moments t x)) (ticks t x)
unfolding moments divided_ticks_among ticks
pay_run K N zero x room cut short b = free K N x b
pay_run K N (suc t) x room cut short b =
    let a = pay_tick K N x (fine K x b.inv cut.0 short.0) (omega arith) b in
    let same : cond (divided_among K.steady K.L (tick x)) 1 0 ≡ split K (tick x) = split_divided K (tick x) a.1.inv.same-n in
    let r : Paid K a.0 (divided_ticks_among K.steady K.L (moments t (tick x))) (ticks t (tick x)) = pay_run K a.0 t (tick x) (rw (tick-tick x) (omega arith)) cut.1 short.1 a.1 in
    record { left = r.left; budget = r.budget; paid = omega (arith, a.2, r.paid) }

-- a start or crash of an unsteady head takes nothing
pay_change : (K : Stretch) (N : ℕ) (x : System) → Budget K N x → (p : ℕ) → In x.n p → K.steady p ≡ false → (z : Station) → Reached (with_station p z x) → StillSteady K.steady K.n K.L (with_station p z x)
    → Paid K N 0 (with_station p z x)
pay_change K N x b p ip ns z r h = free K N _ (leaves_budget K N x _ (change_leaves K x p ip ns z r h b.inv) b)

-- what an accepted entry takes; a start or crash is of an unsteady head, since steady heads are up before it and after it
pay : (K : Stretch) (N : ℕ) (c : Command) (x : System) → x.ready ≡ true → Accepts c x → LosesNoneAmong K.steady c x
    → All (SentAmong K.steady (λ y. y ≢ 0)) (ticks_of c x) → All (SentAmong K.steady (λ y. y ≤ K.d)) (ticks_of c x)
    → Budget K N x → StillSteady K.steady K.n K.L (perform c x) → Paid K N (divided_ticks_among K.steady K.L (ticks_of c x)) (perform c x)
unfolding perform divided_ticks_among
pay K N (SetUp clock n period) x r a none cut short b h = absurd (true≢false (sym r ∙ a.0))
pay K N (Start p) x r (r', ip, down, few) none cut short b h =
    let ns : K.steady p ≡ false = false_unless (K.steady p) (λ s. true≢false (sym (b.inv.ups p (rw (← b.inv.same-n) ip) s) ∙ down)) in
    pay_change K N x b p ip ns (starting x p (station x p)) (start-reached x b.inv.reached p ip few) h
pay K N (Crash p) x r (r', ip, up) none cut short b h =
    let dead : (station (with_station p (crashed (station x p)) x) p).up ≡ false = ap (λ (y : Station). y.up) (changed_same x b.inv.reached.sound p ip (crashed (station x p))) ∙ crashed-up (station x p) in
    let ns : K.steady p ≡ false = false_unless (K.steady p) (λ s. true≢false (sym (h.ups p (rw (← b.inv.same-n) ip) s) ∙ dead)) in
    pay_change K N x b p ip ns (crashed (station x p)) (crash-reached x b.inv.reached p ip up) h
pay K N (Link p q d) x r (r', ip, iq, ne, few) none cut short b h = free K N _ (leaves_budget K N x _ (delay-leaves K x p q d ip iq ne few b.inv) b)
pay K N (Run t) x r (r', l, room) none cut short b h = pay_run K N t x room cut short b
pay K N (Lose p q) x r (r', ip, iq, ne) none cut short b h = free K N _ (leaves_budget K N x _ (lose-leaves K x p q ip iq ne none b.inv) b)
pay K N Report x r a none cut short b h = free K N x b
pay K N (Rank p r) x rd (r', flash, ip, few, none-started) none cut short b h =
    absurd (nobody_up x b.inv.reached.sound flash none-started K.L (in_s K x b.inv K.L K.L-in) (b.inv.ups K.L K.L-in K.L-steady))

divided-append : (S : ℕ → Bool) (L : ℕ) (xs ys : List System) → divided_ticks_among S L (xs ++ ys) ≡ divided_ticks_among S L xs + divided_ticks_among S L ys
unfolding divided_ticks_among
divided-append S L [] ys = omega arith
divided-append S L (x ∷ xs) ys = omega (arith, divided-append S L xs ys)

-- an entry, accepted or refused
pay_entry : (K : Stretch) (N : ℕ) (e : List ℕ) (x : System) → x.ready ≡ true → (accepted x e ≡ true → LosesNoneAmong K.steady (decode e) x)
    → All (SentAmong K.steady (λ y. y ≢ 0)) (cond (accepted x e) (ticks_of (decode e) x) []) → All (SentAmong K.steady (λ y. y ≤ K.d)) (cond (accepted x e) (ticks_of (decode e) x) [])
    → Budget K N x → StillSteady K.steady K.n K.L (after x e) → Paid K N (divided_ticks_among K.steady K.L (cond (accepted x e) (ticks_of (decode e) x) [])) (after x e)
unfolding divided_ticks_among
pay_entry K N e x r none cut short b h = go (accepted x e) refl cut short
  where
    go : (t : Bool) → accepted x e ≡ t → All (SentAmong K.steady (λ y. y ≢ 0)) (cond t (ticks_of (decode e) x) []) → All (SentAmong K.steady (λ y. y ≤ K.d)) (cond t (ticks_of (decode e) x) [])
        → Paid K N (divided_ticks_among K.steady K.L (cond t (ticks_of (decode e) x) [])) (after x e)
    go true t cut short =
        rw (after-yes x e t) (pay K N (decode e) x r (accepts (decode e) x (ruling-tests x e (eqb-true _ _ t))) (none t) cut short b (rw (after-yes x e t) at h))
    go false t cut short = rw (after-no x e t) (free K N x b)

-- the entries of a stretch
pub walk : (K : Stretch) (N : ℕ) (cs : List Command) (es : List (List ℕ)) (x : System) → GivenBy cs x → Throughout (AllUp K.steady K.n) cs es x → Throughout (OthersMoreNow K.steady K.n K.L) cs es x
    → Each (LosesNoneAmong K.steady) es x → All (SentAmong K.steady (λ y. y ≢ 0)) (befores es x) → All (SentAmong K.steady (λ y. y ≤ K.d)) (befores es x)
    → Budget K N x → divided_ticks_among K.steady K.L (befores es x) ≤ N
unfolding befores divided_ticks_among
walk K N cs [] x is-given up more none cut short b = zero-le
walk K N cs (e ∷ es) x is-given up more none cut short b =
    let now : List System = cond (accepted x e) (ticks_of (decode e) x) [] in
    let rest : List System = befores es (after x e) in
    let is-given' : GivenBy (with_entry cs x e) (after x e) = given-after cs x is-given e in
    let ready : x.ready ≡ true = (given-told cs x is-given).is-ready K.L (in_s K x b.inv K.L K.L-in) in
    let h : StillSteady K.steady K.n K.L (after x e) =
    still_steady K.steady K.n K.L (with_entry cs x e) (after x e) K.L-in (n_kept x e ready ∙ b.inv.same-n) (after-flash x e (ready, b.inv.reached.flash)).1 (given-told (with_entry cs x e) (after x e) is-given') (at_once _ (with_entry cs x e) es (after x e) up.1) (at_once _ (with_entry cs x e) es (after x e) more.1) in
    let r : Paid K N (divided_ticks_among K.steady K.L now) (after x e) = pay_entry K N e x ready none.0 (all_left _ now rest cut) (all_left _ now rest short) b h in
    let m : divided_ticks_among K.steady K.L rest ≤ r.left =
    walk K r.left (with_entry cs x e) es (after x e) is-given' up.1 more.1 none.1 (all_right _ now rest cut) (all_right _ now rest short) r.budget in
    rw divided-append (omega (arith, r.paid))
