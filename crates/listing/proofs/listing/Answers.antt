use mathlib.Core.Path.{sym, ap, ◌∙◌}
use native.Mathlib.Omega.{arith}
use lib.ListN.{length}
use Rattle.election.proofs.Soundness.{sound-of}
use Rattle.listing.proofs.Answers.{unsound, not_set_up, short, done}
use Rattle.listing.proofs.Room.{listing-room}
use Rattle.listing.proofs.listing.Goals as goal

pub returns-then-not-sound : goal.returns-then-not-sound
returns-then-not-sound c = unsound _ _ (sym c.sound.ensures ∙ c.if-not-sound.true)

pub returns-then-not-s : goal.returns-then-not-s
returns-then-not-s c = not_set_up _ _ (sym c.sound.ensures ∙ c.if-not-sound.false) c.if-not-s.true

pub invariant_of-text : goal.invariant_of-text
invariant_of-text c = let s = c.args.s.now in record { few = (sound-of s (sym c.sound.ensures ∙ c.if-not-sound.false) c.if-not-s.false).n-high }

pub size-requires : goal.size-requires
size-requires c =
    let s = c.args.s.now in
    let few = (sound-of s (sym c.sound.ensures ∙ c.if-not-sound.false) c.if-not-s.false).n-high in
    omega (arith, ap length c.text-text.ensures, listing-room s few)

pub returns-then-buffer-size : goal.returns-then-buffer-size
returns-then-buffer-size c =
    let s = c.args.s.now in
    short _ _ (sym c.sound.ensures ∙ c.if-not-sound.false) c.if-not-s.false (omega (arith, c.size.ensures, ap length c.text-text.ensures))

pub returns : goal.returns
returns c =
    let s = c.args.s.now in
    done _ _ (sym c.sound.ensures ∙ c.if-not-sound.false) c.if-not-s.false (omega (arith, c.size.ensures, ap length c.text-text.ensures)) (rw c.text-text.ensures at c.put.ensures)
