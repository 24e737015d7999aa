-- A text that makes nothing: what its calls leave of its state, and the refusals.
use Rattle.std.proofs.Common.{◌≡◌, ℕ, refl, arith, Some, None}
use Rattle.std.specs.Borrow.{GName}
use Rattle.js_store.specs.declared.faults.StoreFault.TheVariants.{Memory}
use Rattle.js_store.specs.declared.limit.Limit.TheVariants.{Bits64}
use Rattle.js_store.specs.Faults.{StoreStep, Uses}
use Rattle.js_store.specs.Limits.{limit_units}
use Rattle.heap_rule.specs.declared.view.View.{View}
use Rattle.heap_table.specs.Agents.{view_of}
use Rattle.heap_read.specs.Reads.{OnlyLoads}
use Rattle.heap_session.specs.Sessions.{table_of}
use Rattle.heap_session.proofs.States.{history_reads, step_reads}
use Rattle.heap_agents.specs.Shared.{SharedText, heap_of}
use Rattle.heap_notes.specs.declared.seats.Seats.{Seats}
use Rattle.agent_searches.specs.Looking.{state_at}

-- a call by loads alone
pub looks : (a b : SharedText) (name : GName) (seats : Seats) → heap_of b ≡ heap_of a → b.limit ≡ a.limit → OnlyLoads (view_of a.reader.agent) (view_of b.reader.agent)
    → Uses (state_at a name seats) (state_at b name seats) None 0 0
looks a b name seats heap limit reads = let v : View = view_of a.reader.agent in let w : View = view_of b.reader.agent in
    let step = step_reads v w (limit_units Bits64) (table_of (heap_of a)) a.reader.belongs.5 reads in let o = step.grows in record {
      step = record {
        grows = record {
          known = o.known;
          settled = o.settled;
          shut = o.shut;
          interned = o.interned;
          used_ids = o.used_ids;
          used_words = o.used_words;
          low_ids = o.low_ids;
          low_words = o.low_words;
          sizes = o.sizes;
          limit = o.limit;
          bounded = o.bounded;
          sure = refl;
          frame = λ i. record {
            session = record { table = table_of (heap i); share = (o.frame i).share; agents = (o.frame i).agents; seen = (o.frame i).seen };
            text = name;
            heap = heap i;
            limit = limit i;
            seats = seats;
            own_ids = reads.own_ids i;
            own_words = reads.own_words i;
          };
        };
        honest = tt;
        within_ids = step.within_ids;
        within_words = step.within_words;
      };
      no_slots = tt;
      history = history_reads v w reads;
    }

-- a call that is refused
pub refused : (a : SharedText) (name : GName) (seats : Seats) (ids words : ℕ) → StoreStep (state_at a name seats) (state_at a name seats) (Some Memory) ids words
refused a name seats ids words = record {
  grows = record {
    known = λ n h. refl;
    settled = λ n h. h;
    shut = λ u h. h;
    interned = λ u n h. h;
    used_ids = omega arith;
    used_words = omega arith;
    low_ids = omega arith;
    low_words = omega arith;
    sizes = refl;
    limit = refl;
    bounded = refl;
    sure = refl;
    frame = refl;
  };
  honest = refl;
  within_ids = omega arith;
  within_words = omega arith;
}

pub refused_use : (a : SharedText) (name : GName) (seats : Seats) (ids words : ℕ) → Uses (state_at a name seats) (state_at a name seats) (Some Memory) ids words
refused_use a name seats ids words = record { step = refused a name seats ids words; no_slots = tt; history = refl }
