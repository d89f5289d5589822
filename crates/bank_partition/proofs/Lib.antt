pub mod BankCount
pub mod BanksOfSpreads
pub mod OneBankMore
