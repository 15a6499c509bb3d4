-- What a send record is to a reader, and what it keeps.
use Rattle.std.specs.Prelude.{◌≤◌, IsTrue}
use Rattle.m3_base.specs.Ideal.Context.{SendRecord}
use Rattle.m3_base.specs.Ideal.Acceptance.{is_form}
use Rattle.m3_endpoint.specs.declared.send.SendEp.TheInside.{Inside}
use Rattle.m3_endpoint.specs.RecordForms.{send_form}

abbrev pub send_record : Inside → SendRecord
send_record s =
    record {
      grant = s.grant;
      to = s.to;
      to_ep = s.to_ep;
      to_grant = s.to_grant;
      label = s.label;
      size = s.size;
      limit = s.limit;
      held = s.held;
      closing = s.closing;
    }

pub record IsKept (s : Inside) : Type 0 where
  pub within : s.held ≤ s.limit
  pub form : IsTrue (is_form (send_form (send_record s)))
