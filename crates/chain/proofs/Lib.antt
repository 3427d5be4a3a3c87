mod Chained
