-- I. Demand 3: nobody starts or crashes in the stretch, so the heads that are up at its beginning are steady.
use mathlib.Core.Path.{◌≡◌, refl, sym, ap, ◌∙◌}
use mathlib.Core.Logic.{◌≢◌, ◌↔◌}
use mathlib.Core.Bool.{Bool, true, false, cond, not, ◌&&◌, true≢false}
use mathlib.Core.List.{List, [], ◌∷◌, ◌++◌}
use Prim.Native.Nat.{ℕ, zero, suc, ◌+◌, ◌-◌, ◌≤◌, ◌<◌}
use native.Mathlib.Omega.{arith}
use lib.Dec.{eqb}
use borrow.Author.Tests.{eqb-true}
use Rattle.lists.specs.Every.{All}
use Rattle.lists.specs.Largest.{max_to}
use Rattle.lists.proofs.Count.{count_same}
use Rattle.lists.proofs.Every.{all_both}
use Rattle.lists.proofs.Largest.{max_same}
use Rattle.lists.proofs.Test.{all_same}
use Rattle.station.specs.Order.{entry}
use Rattle.election.specs.Commands.{Command, SetUp, Start, Crash, Link, Run, Lose, Report, Rank, decode}
use Rattle.election.specs.History.{accepted, after, commands, is_up_after}
use Rattle.election.specs.Listing.{trusts, all_trust}
use Rattle.election.specs.Schedule.{schedule}
use Rattle.election.specs.System.{station}
use Rattle.election.specs.Tick.{tick}
use Rattle.election.specs.declared.System.{System}
use Rattle.election.proofs.Accepting.{Accepts, accepts, ruling-tests}
use Rattle.election.proofs.Followed.{accepted-schedule}
use Rattle.election.proofs.Places.{In, seat_in, seat_of, tick-n}
use Rattle.election.proofs.Steps.{sending-of, tick-up}
use Rattle.settling.specs.Settling.{First, moments, befores, divided_ticks, Permitted, LosesNone, Each, Sent, longest_wait, longest_timeout, up_heads, bound, Settling}
use Rattle.settling.specs.Steady.{with_entry, Throughout, AllUp, OthersMoreNow, FirstAmong, divided_ticks_among, LosesNoneAmong, SentAmong, longest_wait_among, longest_timeout_among, heads_among, bound_among, up_after, DemandOf, DemandFollows, SameWords, UpHeadsWords}
use Rattle.settling.proofs.A4Moments.{GivenBy, given-arrived, given-told, given-after, throughout_map, Flash, stretch-ticks}
use Rattle.settling.proofs.HSteady.{steady-settling}

-- where S says who is up, the words are the same
pub up_heads-words : UpHeadsWords
unfolding all_trust longest_wait_among longest_wait longest_timeout_among longest_timeout heads_among up_heads
up_heads-words S L s same =
    record {
      of_divided = ap not (all_same s.n _ _ (λ k l. ap (λ b. cond b (eqb (station s (k + 1)).leader L) true) (at k l) ∙ ap (trusts L) (seat_of s k)));
      of_wait = max_same s.n _ _ (λ k l. ap (λ b. cond (b && (station s (k + 1)).recovering) ((station s (k + 1)).slot - s.tick) 0) (at k l));
      of_timeout = max_same s.n _ _ (λ k l. ap (λ b. cond b (max_to s.n (λ i. cond (eqb i k) 0 (entry (station s (k + 1)).timeouts (i + 1)))) 0) (at k l));
      of_heads = count_same s.n _ _ at;
    }
  where
    at : (k : ℕ) → k < s.n → S (k + 1) ≡ (station s (k + 1)).up
    at k l = let ip : In s.n (k + 1) = seat_in s.n k l in same (k + 1) ip.low ip.high

-- who is up after more commands
up-append : (u : Bool) (p : ℕ) (cs ds : List Command) → is_up_after u p (cs ++ ds) ≡ is_up_after (is_up_after u p cs) p ds
unfolding is_up_after
up-append u p [] ds = refl
up-append u p (SetUp clock n period ∷ cs) ds = up-append u p cs ds
up-append u p (Start q ∷ cs) ds = up-append (cond (eqb q p) true u) p cs ds
up-append u p (Crash q ∷ cs) ds = up-append (cond (eqb q p) false u) p cs ds
up-append u p (Link a b d ∷ cs) ds = up-append u p cs ds
up-append u p (Run t ∷ cs) ds = up-append u p cs ds
up-append u p (Lose a b ∷ cs) ds = up-append u p cs ds
up-append u p (Report ∷ cs) ds = up-append u p cs ds
up-append u p (Rank q r ∷ cs) ds = up-append u p cs ds

up-permitted : (u : Bool) (p : ℕ) (c : Command) → Permitted c → is_up_after u p (c ∷ []) ≡ u
unfolding is_up_after
up-permitted u p (SetUp clock n period) ok = absurd ok
up-permitted u p (Start q) ok = absurd ok
up-permitted u p (Crash q) ok = absurd ok
up-permitted u p (Link a b d) ok = refl
up-permitted u p (Run t) ok = refl
up-permitted u p (Lose a b) ok = refl
up-permitted u p Report ok = refl
up-permitted u p (Rank q r) ok = absurd ok

-- S says who is up, by the accepted commands and in the system
abbrev UpByCommands : (ℕ → Bool) → List Command → Type 0
UpByCommands S cs = (p : ℕ) → S p ≡ is_up_after false p cs

abbrev UpInSystem : (ℕ → Bool) → System → Type 0
UpInSystem S x = (p : ℕ) → 1 ≤ p → p ≤ x.n → S p ≡ (station x p).up

-- so it stays for the whole stretch
told-after : (S : ℕ → Bool) (cs : List Command) (x : System) (e : List ℕ) → (accepted x e ≡ true → Permitted (decode e)) → UpByCommands S cs → UpByCommands S (with_entry cs x e)
unfolding is_up_after
told-after S cs x e ok h p = h p ∙ sym (up-append false p cs _ ∙ go (accepted x e) refl)
  where
    go : (b : Bool) → accepted x e ≡ b → is_up_after (is_up_after false p cs) p (cond b (decode e ∷ []) []) ≡ is_up_after false p cs
    go true t = up-permitted (is_up_after false p cs) p (decode e) (ok t)
    go false t = refl

told-throughout : (S : ℕ → Bool) (cs : List Command) (es : List (List ℕ)) (x : System) → Each (λ c y. Permitted c) es x → UpByCommands S cs → Throughout (UpByCommands S) cs es x
told-throughout S cs [] x ok h = h
told-throughout S cs (e ∷ es) x ok h = (h, told-throughout S (with_entry cs x e) es (after x e) ok.1 (told-after S cs x e ok.0 h))

-- S says who is up before a tick, and at its end
abbrev UpAround : (ℕ → Bool) → System → Type 0
UpAround S x = UpInSystem S x × UpInSystem S (tick x)

module _ (S : ℕ → Bool) where
  tick-shows : (x : System) → x.n ≤ 8 → UpInSystem S x → UpInSystem S (tick x)
  tick-shows x small h p low high =
      let inside : p ≤ x.n = omega (arith, tick-n x) in
      h p low inside ∙ sym (tick-up x small p (record { low = low; high = inside }))

  run-shows : (t : ℕ) (x : System) → x.n ≤ 8 → UpInSystem S x → All (UpAround S) (moments t x)
  unfolding moments
  run-shows zero x small h = tt
  run-shows (suc t) x small h =
      let next : UpInSystem S (tick x) = tick-shows x small h in
      ((h, next), run-shows t (tick x) (rw (tick-n x) small) next)

  -- at a moment of the stretch
  module _ (cs : List Command) (x : System) (is-given : GivenBy cs x) (told : UpByCommands S cs) where
    shows : UpInSystem S x
    shows p low high = told p ∙ sym ((given-told cs x is-given).latest p (record { low = low; high = high }))

    -- what is asked of a loss
    loses : (c : Command) → Accepts c x → LosesNone c x → LosesNoneAmong S c x
    loses (SetUp clock n period) a none = tt
    loses (Start p) a none = tt
    loses (Crash p) a none = tt
    loses (Link p q d) a none = tt
    loses (Run t) a none = tt
    loses (Lose p q) (r, ip, iq, ne) none = λ sp sq. none (sym (shows p ip.low ip.high) ∙ sp) (sym (shows q iq.low iq.high) ∙ sq)
    loses Report a none = tt
    loses (Rank p r) a none = tt

  -- along the stretch
  all_show : (cs : List Command) (es : List (List ℕ)) (x : System) → GivenBy cs x → Flash x → Throughout (UpByCommands S) cs es x → All (UpAround S) (befores es x)
  all_show = stretch-ticks (UpAround S) (UpByCommands S) (λ cs x h f told t. run-shows t x ((given-arrived cs x h).reached f.0 f.1).sound.n-high (shows cs x h told))

  all_lose : (cs : List Command) (es : List (List ℕ)) (x : System) → GivenBy cs x → Throughout (UpByCommands S) cs es x → Each LosesNone es x → Each (LosesNoneAmong S) es x
  all_lose cs [] x is-given told none = tt
  all_lose cs (e ∷ es) x is-given told none = (
    λ t. loses cs x is-given told.0 (decode e) (accepts (decode e) x (ruling-tests x e (eqb-true _ _ t))) (none.0 t),
    all_lose (with_entry cs x e) es (after x e) (given-after cs x is-given e) told.1 none.1,
  )

  -- what is asked of the messages sent
  sent-among : (P : ℕ → Type 0) (x : System) → UpAround S x → Sent P x → SentAmong S P x
  sent-among P x h sent p q lp hp lq hq ne sp sq t = sent p q lp hp lq hq ne t (sym (h.0 q lq hq) ∙ sq)

  -- the divided ticks
  same-divided : (L : ℕ) (xs : List System) → All (UpAround S) xs → divided_ticks L xs ≡ divided_ticks_among S L xs
  unfolding divided_ticks divided_ticks_among
  same-divided L [] h = refl
  same-divided L (x ∷ xs) h = rw ((up_heads-words S L (tick x) h.0.1).of_divided, same-divided L xs h.1)

-- the first of the up heads is the first of the set of them
pub first-up : (n : ℕ) (cs : List Command) (L : ℕ) → First n cs L ↔ FirstAmong (λ p. is_up_after false p cs) n cs L
first-up n cs L = (
  λ f. record { low = f.low; high = f.high; in_set = f.is_up; least = f.least },
  λ f. record { low = f.low; high = f.high; is_up = f.in_set; least = f.least },
)

pub demand_follows : DemandFollows
demand_follows bytes stretch d L ok flash first quiet =
    let s : System = (schedule bytes).system in
    let cs : List Command = commands bytes in
    let S : ℕ → Bool = up_after bytes in
    let followed = accepted-schedule bytes ok in
    let is-given : GivenBy cs s = record { allowed = followed.allowed; system = followed.system } in
    let f : Flash s = ((given-told cs s is-given).is-ready L (record { low = first.low; high = first.high }), flash) in
    let told : Throughout (UpByCommands S) cs stretch s = told-throughout S cs stretch s quiet.permitted (λ p. refl) in
    let at_first : UpInSystem S s = shows S cs s is-given (λ p. refl) in
    let all : All (UpAround S) (befores stretch s) = all_show S cs stretch s is-given f told in
    let words : SameWords S L s = up_heads-words S L s at_first in
    let same-bound : bound_among S d s ≡ bound d s = rw (words.of_wait, words.of_timeout, words.of_heads) in
    record {
      first = (first-up s.n cs L).0 first;
      steady =
          record {
            steady = throughout_map (UpByCommands S) (AllUp S s.n) (λ ds h p low high u. sym (h p) ∙ u) cs stretch s told;
            others = throughout_map (UpByCommands S) (OthersMoreNow S s.n L) (λ ds h p low high ns u. absurd (true≢false (sym u ∙ sym (h p) ∙ ns))) cs stretch s told;
            messages =
                record {
                  none-lost = all_lose S cs stretch s is-given told quiet.none-lost;
                  none-cut = all_both (UpAround S) (Sent (λ x. x ≢ 0)) _ (λ x. sent-among S (λ y. y ≢ 0) x) (befores stretch s) all quiet.none-cut;
                  arriving = λ p q lp hp lq hq ne u. quiet.arriving p q lp hp lq hq ne (sym (at_first q lq hq) ∙ u);
                  within = all_both (UpAround S) (Sent (λ x. x ≤ d)) _ (λ x. sent-among S (λ y. y ≤ d) x) (befores stretch s) all quiet.within;
                };
          };
      settles = λ settles.
          record {
            few = rw (same-divided S L (befores stretch s) all, ← same-bound) settles.few;
            silent =
                all_both (UpAround S) _ _
                (λ x h quiet e p low high t. quiet ((up_heads-words S L (tick x) h.1).of_divided ∙ e) p low high (h.0 p low high ∙ (sending-of x p t).0) t)
                (befores stretch s) all settles.silent;
            answers = settles.answers;
          };
    }

pub settling : Settling
settling bytes stretch d L ok flash first quiet =
    let h : DemandOf bytes stretch d L = demand_follows bytes stretch d L ok flash first quiet in
    let (settles, is-reached) = steady-settling bytes stretch (up_after bytes) d L ok flash h.first h.steady in
    (h.settles settles, is-reached)
