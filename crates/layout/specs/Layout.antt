-- The system that a layout stands for.
use Rattle.std.specs.Prelude.{List, ℕ, get_or}
use Rattle.lists.specs.Entries.{up_to}
use Rattle.lists.specs.Segment.{segment}
use Rattle.election.specs.System.{places, no_message}
use Rattle.layout.specs.declared.Layout.{Layout}
use Rattle.election.specs.declared.Link.{Link}
use Rattle.election.specs.declared.Message.{Message}
use Rattle.election.specs.declared.System.{System}

-- the link at place k: its count, and its stretch of the messages
unfoldable pub link_of : List ℕ → List Message → ℕ → Link
link_of used ms k = record { used = get_or used k 0; messages = segment places no_message ms k }

-- all links
unfoldable pub links_of : List ℕ → List Message → List Link
links_of used ms = up_to 64 (link_of used ms)

-- the system: the same fields, and the links put together
abbrev pub system_of : Layout → System
system_of s =
    record {
      ready = s.ready;
      n = s.n;
      period = s.period;
      tick = s.tick;
      stations = s.stations;
      sent = s.sent;
      delays = s.delays;
      links = links_of s.used s.messages;
      ranks = s.ranks;
      clock = s.clock;
    }
