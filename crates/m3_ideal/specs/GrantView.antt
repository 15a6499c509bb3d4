-- What a grant is to a reader.
use Rattle.m3_base.specs.Ideal.State.{Standing as Meaning, Live, Closing, Closed, Done, Grant}
use Rattle.m3_ideal.specs.declared.grants.node.Standing.{Standing}
use Rattle.m3_ideal.specs.declared.grants.node.Grant.TheInside.{Inside}

abbrev pub standing_of : Standing → Meaning
standing_of Standing.Live = Live
standing_of Standing.Closing = Closing
standing_of Standing.Closed = Closed
standing_of Standing.Done = Done

abbrev pub grant_value : Inside → Grant
grant_value x =
    record { line = x.line; fresh = x.fresh; standing = standing_of x.standing; close_sent = x.close_sent; is_root = x.is_root }
