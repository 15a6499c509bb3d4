-- An activity's context: what each endpoint holds, and which commands fly.
use Rattle.std.specs.Prelude.{ℕ, Bool, false, List, [], replicate, slice_index_or, slice_set, Option, Some, None}
use Rattle.m3_base.specs.declared.message.Message.{Message}
use Rattle.m3_base.specs.declared.packet.Perm.{Perm}
use Rattle.m3_base.specs.declared.packet.Fresh.{Fresh}

-- what kind of command flies
pub data Kind : Type 0 where
  Sending Replying Reading Writing : Kind

pub record Flying : Type 0 where
  pub number : ℕ
  pub kind : Kind
  pub ep : ℕ
  pub token : ℕ

pub record SendRecord : Type 0 where
  pub grant : ℕ
  pub to : ℕ
  pub to_ep : ℕ
  pub to_grant : ℕ
  pub label : ℕ
  pub size : ℕ
  pub limit : ℕ
  pub held : ℕ
  pub closing : Bool

-- a message that was fetched; it is marked while it is being replied to
pub record Fetched : Type 0 where
  pub token : ℕ
  pub marked : Bool
  pub message : Message

pub record ReceiveRecord : Type 0 where
  pub grant : ℕ
  pub slots : ℕ
  pub size : ℕ
  pub unread : List Message
  pub fetched : List Fetched
  pub next_token : ℕ
  pub closing : Bool

pub record MemoryRecord : Type 0 where
  pub grant : ℕ
  pub start : ℕ
  pub length : ℕ
  pub perm : Perm
  pub closing : Bool

pub data Endpoint : Type 0 where
  Free : Endpoint
  Sends : SendRecord → Endpoint
  Receives : ReceiveRecord → Endpoint
  Reaches : MemoryRecord → Endpoint

pub record Context : Type 0 where
  pub act : ℕ
  pub endpoints : List Endpoint
  pub flying : List Flying
  pub next : ℕ

abbrev pub new_context : ℕ → Context
new_context a = record { act = a; endpoints = replicate 16 Free; flying = []; next = 1 }

abbrev pub endpoint : Context → ℕ → Endpoint
endpoint c ep = slice_index_or c.endpoints ep Free

-- free, where there is no context
abbrev pub endpoint_at : Option Context → ℕ → Endpoint
endpoint_at None ep = Free
endpoint_at (Some c) ep = endpoint c ep

abbrev pub with_endpoint : Context → ℕ → Endpoint → Context
with_endpoint c ep e = record c { endpoints = slice_set c.endpoints ep e }

-- a receive record with no message yet
abbrev pub empty_record : ℕ → ℕ → ℕ → ReceiveRecord
empty_record grant slots size =
    record { grant = grant; slots = slots; size = size; unread = []; fetched = []; next_token = 0; closing = false }

-- a new record of this form
abbrev pub new_endpoint : Fresh → Endpoint
new_endpoint (Fresh.Send grant to to_ep to_grant label size limit) =
    Sends (record {
      grant = grant;
      to = to;
      to_ep = to_ep;
      to_grant = to_grant;
      label = label;
      size = size;
      limit = limit;
      held = limit;
      closing = false;
    })
new_endpoint (Fresh.Receive grant slots size) = Receives (empty_record grant slots size)
new_endpoint (Fresh.Memory grant start length perm) =
    Reaches (record { grant = grant; start = start; length = length; perm = perm; closing = false })
