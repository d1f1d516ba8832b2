-- What a sound system hands to an operation of a clock head: exactly what fits.
use Rattle.std.specs.Prelude.{◌≡◌, List, true, ℕ, replicate}
use Rattle.station.specs.declared.Station.{Station}
use Rattle.clock.specs.Fit.{fit_start, fit_crash, fit_hear, fit_expire, fit_slot}
use Rattle.handing.specs.Handed.{Finds, Hears, Expires, Slots, Exactly}

-- clock heads have no ranks, and their messages no counts: eight zeros, as in the code's tables
abbrev pub zeros : List ℕ
zeros = replicate 8 0

-- an operation of a clock head takes exactly what some sound system hands to it
abbrev pub ClockStartExact : Type 0
ClockStartExact =
    (me n period tick : ℕ) (x : Station) → Exactly (fit_start me n period tick x ≡ true) (Finds true me n period tick x) (λ h. h.system)

abbrev pub ClockCrashExact : Type 0
ClockCrashExact =
    (me n period tick : ℕ) (x : Station) → Exactly (fit_crash me n period tick x ≡ true) (Finds true me n period tick x × (x.up ≡ true)) (λ h. h.0.system)

abbrev pub ClockHearExact : Type 0
ClockHearExact =
    (me n period now q z : ℕ) (x : Station)
    → Exactly (fit_hear me n period now q z x ≡ true) (Hears true zeros me n period now q zeros z x) (λ h. h.system)

abbrev pub ClockExpireExact : Type 0
ClockExpireExact =
    (me n period now : ℕ) (x : Station) → Exactly (fit_expire me n period now x ≡ true) (Expires true me n period now x) (λ h. h.system)

abbrev pub ClockSlotExact : Type 0
ClockSlotExact =
    (me n period now : ℕ) (x : Station) → Exactly (fit_slot me n period now x ≡ true) (Slots true zeros me n period now x) (λ h. h.system)
