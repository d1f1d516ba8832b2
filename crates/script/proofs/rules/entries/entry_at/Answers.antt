use mathlib.Core.Path.{refl}
use native.Mathlib.Omega.{arith}
use Rattle.text.specs.Quoted.{text}
use Rattle.election.specs.Commands.{decode}
use Rattle.script.proofs.Cases.{ten}
use Rattle.script.proofs.rules.entries.entry_at.Goals as goal

pub returns : goal.returns
unfolding text decode
returns c = ten c.args.k c.requires
    (λ e. rw e (record { name = refl; numbers = refl; few = omega arith; least = refl; most = refl; ceiling = omega arith; code = record { of_run = λ e. absurd (omega arith); of_byte = λ n x y z h. refl; of_bytes = λ n. refl; known = (omega arith, omega arith) } }))
    (λ e. rw e (record { name = refl; numbers = refl; few = omega arith; least = refl; most = refl; ceiling = omega arith; code = record { of_run = λ e. absurd (omega arith); of_byte = λ n x y z h. refl; of_bytes = λ n. refl; known = (omega arith, omega arith) } }))
    (λ e. rw e (record { name = refl; numbers = refl; few = omega arith; least = refl; most = refl; ceiling = omega arith; code = record { of_run = λ e. absurd (omega arith); of_byte = λ n x y z h. refl; of_bytes = λ n. refl; known = (omega arith, omega arith) } }))
    (λ e. rw e (record { name = refl; numbers = refl; few = omega arith; least = refl; most = refl; ceiling = omega arith; code = record { of_run = λ e. absurd (omega arith); of_byte = λ n x y z h. refl; of_bytes = λ n. refl; known = (omega arith, omega arith) } }))
    (λ e. rw e (record { name = refl; numbers = refl; few = omega arith; least = refl; most = refl; ceiling = omega arith; code = record { of_run = λ e. absurd (omega arith); of_byte = λ n x y z h. refl; of_bytes = λ n. refl; known = (omega arith, omega arith) } }))
    (λ e. rw e (record { name = refl; numbers = refl; few = omega arith; least = refl; most = refl; ceiling = omega arith; code = record { of_run = λ e. absurd (omega arith); of_byte = λ n x y z h. rw (h (omega arith)); of_bytes = λ n. refl; known = (omega arith, omega arith) } }))
    (λ e. rw e (record { name = refl; numbers = refl; few = omega arith; least = refl; most = refl; ceiling = omega arith; code = record { of_run = λ e x y z. refl; of_byte = λ n. absurd (n refl); of_bytes = λ n. absurd (n refl); known = (omega arith, omega arith) } }))
    (λ e. rw e (record { name = refl; numbers = refl; few = omega arith; least = refl; most = refl; ceiling = omega arith; code = record { of_run = λ e. absurd (omega arith); of_byte = λ n x y z h. refl; of_bytes = λ n. refl; known = (omega arith, omega arith) } }))
    (λ e. rw e (record { name = refl; numbers = refl; few = omega arith; least = refl; most = refl; ceiling = omega arith; code = record { of_run = λ e. absurd (omega arith); of_byte = λ n x y z h. refl; of_bytes = λ n. refl; known = (omega arith, omega arith) } }))
    (λ e. rw e (record { name = refl; numbers = refl; few = omega arith; least = refl; most = refl; ceiling = omega arith; code = record { of_run = λ e. absurd (omega arith); of_byte = λ n x y z h. refl; of_bytes = λ n. refl; known = (omega arith, omega arith) } }))
