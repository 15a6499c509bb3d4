-- Numbers in their ranges, and bytes, are read back.
use Rattle.std.proofs.Common.{◌≡◌, ℕ, ◌^◌, ◌<◌, Ok, lit<}
use Rattle.std.specs.Prelude.{decimal}
use Rattle.m3_text.specs.Number.{number}
use Rattle.m3_text.specs.ReadBack.{HexAgain}
use Rattle.m3_text.proofs.ValuesAgain.{number_again, hex_of_again}
use Rattle.m3_script.specs.InRange.{ActInRange, EpInRange, IdInRange, WordInRange}
use Rattle.m3_base.specs.Limits.{Within}

pub within_again : (low high n : ℕ) → high < 2 ^ 64 → Within low high n → number low high (decimal n) ≡ Ok n
within_again low high n lt r = number_again low high n lt r.0 r.1

pub act_again : (n : ℕ) → ActInRange n → number 0 63 (decimal n) ≡ Ok n
act_again n r = within_again 0 63 n (lit< tt) r

-- an endpoint, or a tile
pub ep_again : (n : ℕ) → EpInRange n → number 0 15 (decimal n) ≡ Ok n
ep_again n r = within_again 0 15 n (lit< tt) r

pub id_again : (n : ℕ) → IdInRange n → number 1 4096 (decimal n) ≡ Ok n
id_again n r = within_again 1 4096 n (lit< tt) r

pub u32_again : (n : ℕ) → WordInRange n → number 0 4294967295 (decimal n) ≡ Ok n
u32_again n r = within_again 0 4294967295 n (lit< tt) r

pub length_again : (n : ℕ) → Within 1 4294967295 n → number 1 4294967295 (decimal n) ≡ Ok n
length_again n r = within_again 1 4294967295 n (lit< tt) r

pub label_again : (n : ℕ) → Within 0 18446744073709551615 n → number 0 18446744073709551615 (decimal n) ≡ Ok n
label_again n r = within_again 0 18446744073709551615 n (lit< tt) r

pub bytes_again : HexAgain
bytes_again = hex_of_again
