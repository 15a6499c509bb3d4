-- What a context is to a reader, and what it keeps.
use Rattle.std.specs.Prelude.{◌≡◌, ◌≤◌, length, vec_capacity}
use Rattle.m3_base.specs.Ideal.Context.{Context}
use Rattle.m3_base.specs.Ideal.Issue.{window}
use Rattle.m3_ideal.specs.declared.context.Context.TheInside.{Inside}

abbrev pub context_value : Inside → Context
context_value c = record { act = c.act; endpoints = c.slots.items; flying = c.flying.items; next = c.next }

pub record IsKept (c : Inside) : Type 0 where
  pub slots : length c.slots.items ≡ 16
  pub room : window ≤ vec_capacity c.flying
